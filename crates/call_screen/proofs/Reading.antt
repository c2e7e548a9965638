-- A buffer that is read to its end, or to that of the input: what was read stands at its front.
use Rattle.std.proofs.Common.{◌≡◌, ℕ, ◌+◌, ◌≤◌, List, ◌++◌, length, take, sym, ap, subst, ◌∙◌, length-take-le}
use Rattle.std.specs.Prelude.{Option}
use Rattle.std.specs.Io.KnownBytes.{Consumes}
use Rattle.std.proofs.KnownBytes.{Consumes-trans}
use Rattle.std.proofs.Math.Seq.{take-append-add, take-append-le}
use borrow.Rule.Slice.PartMut.{put_mid}

taken-more : (xs ys : List ℕ) (d k n : ℕ) → d ≤ length xs → n ≤ length ys → take (d + n) (put_mid d k xs ys) ≡ take d xs ++ take n ys
taken-more xs ys d k n within few =
    let long : length (take d xs) ≡ d = length-take-le d xs within in
    ap (λ j. take (j + n) (put_mid d k xs ys)) (sym long) ∙ take-append-add (take d xs) _ n ∙ ap (λ r. take d xs ++ r) (take-append-le n ys _ few)

-- n bytes more
pub read-more : (a b c : Option (List ℕ)) (xs ys : List ℕ) (d k n : ℕ) → d ≤ length xs → n ≤ length ys
    → Consumes a b (take d xs) → Consumes b c (take n ys) → Consumes a c (take (d + n) (put_mid d k xs ys))
read-more a b c xs ys d k n within few first then = subst (Consumes a c) (sym (taken-more xs ys d k n within few)) (Consumes-trans a b c _ _ first then)
