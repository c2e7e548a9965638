-- The number that a part is told by.
use mathlib.Core.Path.{◌≡◌, refl, sym, ap, ◌∙◌}
use mathlib.Core.Bool.{Bool, true, false}
use mathlib.Core.List.{List}
use mathlib.Core.Option.{Option, none, some}
use Prim.Native.Nat.{ℕ}
use native.Mathlib.Omega.{arith}
use lib.ListN.{length}
use denote.Ref.{Bor}
use Rattle.laws.proofs.Tests.{apart}
use Rattle.paper.specs.Words.{asked}
use Rattle.text_words.specs.Answers.{bytes_of, is_there, PartAt}
use Rattle.text_words.proofs.Asks.{asked-lies}
use Rattle.call_asking.specs.Asking.{Told}

module _ (text : Bor (List ℕ)) (place : ℕ) (part : Bor (List ℕ)) (found : Bool) (is : PartAt text place part found) where
  pub tells_none : found ≡ false → Told text.now place 0
  tells_none e = go (asked text.now place) refl (sym e ∙ is.flag)
    where
      go : (o : Option (List ℕ)) → asked text.now place ≡ o → false ≡ is_there o → Told text.now place 0
      go none a f = record { size_is = rw a; nothing = λ z. a }
      go (some l) a f = apart (cc)

  pub tells-some : found ≡ true → Told text.now place (length part.now)
  tells-some e = go (asked text.now place) refl (sym e ∙ is.flag)
    where
      go : (o : Option (List ℕ)) → asked text.now place ≡ o → true ≡ is_there o → Told text.now place (length part.now)
      go none a f = apart (cc)
      go (some l) a f =
          let same : part.now ≡ l = is.bytes ∙ ap bytes_of a in
          record { size_is = rw (a, same); nothing = λ z. absurd (omega (arith, ap length same, (asked-lies text.now place l a).some_bytes)) }
