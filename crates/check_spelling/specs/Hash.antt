-- The hash of a name. Nobody has to believe it: no promise speaks of it.
use Rattle.std.specs.Prelude.{List, ℕ, zero, suc, ◌+◌, ◌-◌, ◌*◌, ◌/◌, ◌%◌, ltb, length, get_or, if◌then◌else◌}

-- how many buckets there are
abbrev pub buckets : ℕ
buckets = 2048

-- the bits of a letter that are the same in both cases
abbrev pub low_at : List ℕ → ℕ → ℕ
low_at l i = get_or l i 0 % 32

unfoldable pub four_of : List ℕ → (i : ℕ) → ℕ
four_of l i = low_at l i + 32 * low_at l (i + 1) + 1024 * low_at l (i + 2) + 32768 * low_at l (i + 3)

unfoldable pub few_of : List ℕ → ℕ
few_of l = low_at l 0 + 32 * low_at l (length l / 2) + 1024 * low_at l (length l - 1) + 32768 * length l

-- the last four letters, and then so many times four from the front
unfoldable pub mixed : List ℕ → (times : ℕ) → ℕ
mixed l zero = four_of l (length l - 4)
mixed l (suc k) = (mixed l k * 73 + four_of l (k * 4)) % 1048576

abbrev pub many_of : List ℕ → ℕ
many_of l = mixed l ((length l - 1) / 4)

unfoldable pub hash_of : List ℕ → ℕ
hash_of l = (if ltb (length l) 4 then few_of l else many_of l) * 648055 % 1048576 / 512
