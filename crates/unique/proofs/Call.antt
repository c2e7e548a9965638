-- The layer Call: what a call leaves besides its run. The promises of the call itself, of the listing and of what is shown have their theorems in their own crates.
use mathlib.Core.Path.{◌≡◌, sym, ◌∙◌}
use mathlib.Core.List.{List}
use Prim.Native.Nat.{ℕ, ◌-◌, ◌≤◌}
use lib.IntN.{ℤ}
use lib.ListN.{length}
use Rattle.paper.specs.Answer.{Record, Result, store_words}
use Rattle.layout.specs.Named.{store_bytes}
use Rattle.store_cells.proofs.Kept.{clear-unique}
use Rattle.call_records.specs.Records.{Written, Emptied}
use Rattle.call_records.specs.Leaves.{Left, Settled, Refuses, Tells}
use Rattle.call_records.proofs.Stores.{AllBytes, left-bytes}

pub written-unique : (before a b : List ℕ) (f : Record) → Written before a f → Written before b f → a ≡ b
written-unique before a b f p q = p.bytes ∙ sym q.bytes

pub emptied-unique : (code values c d v w : List ℕ) (words : ℕ) → Emptied code values c v words → Emptied code values d w words → (c ≡ d) × (v ≡ w)
emptied-unique code values c d v w words p q =
    (clear-unique code c d 0 store_words p.code-cleared q.code-cleared, clear-unique values v w words (store_words - words) p.values-cleared q.values-cleared)

pub settled-unique : {ending place made words : ℕ} {code values fields c d v w f g : List ℕ} → Settled ending place made words code values fields c v f → Settled ending place made words code values fields d w g
    → (c ≡ d) × (v ≡ w) × (f ≡ g)
settled-unique {words = words} {code = code} {values = values} {fields = fields} {c = c} {d = d} {v = v} {w = w} {f = f} {g = g} p q =
    let e = emptied-unique code values c d v w words p.cleared q.cleared in
    (e.0, e.1, written-unique fields f g _ p.told q.told)

-- A store of bytes as a call leaves it: what its words are says all of them.
left_unique : {kept : List ℤ} {before a b : List ℕ} → store_bytes ≤ length before → AllBytes a → AllBytes b → Left kept before a → Left kept before b → a ≡ b
left_unique room s t p q = left-bytes room p s ∙ sym (left-bytes room q t)

module _ {code values fields c d v w f g : List ℕ} (code-room : store_bytes ≤ length code) (values-room : store_bytes ≤ length values) (c-bytes : AllBytes c) (d-bytes : AllBytes d) (v_bytes : AllBytes v) (w-bytes : AllBytes w) where
  pub refuses-unique : {number offset : ℕ} → Refuses number offset code values fields c v f → Refuses number offset code values fields d w g → (c ≡ d) × (v ≡ w) × (f ≡ g)
  refuses-unique p q =
      (left_unique code-room c-bytes d-bytes p.code-left q.code-left, left_unique values-room v_bytes w-bytes p.values-left q.values-left, written-unique fields f g _ p.told q.told)

  pub tells-unique : {R : Result} {out o u : List ℕ} → Tells R out code values fields o c v f → Tells R out code values fields u d w g → (o ≡ u) × (c ≡ d) × (v ≡ w) × (f ≡ g)
  tells-unique p q =
      (p.output ∙ sym q.output, left_unique code-room c-bytes d-bytes p.code-left q.code-left, left_unique values-room v_bytes w-bytes p.values-left q.values-left, written-unique fields f g _ p.told q.told)
