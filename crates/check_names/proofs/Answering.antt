-- What the functions answer, and write.
use mathlib.Core.Path.{◌≡◌, ap, ap₂, subst, ◌∙◌}
use mathlib.Core.List.{List}
use Prim.Native.Nat.{ℕ, ◌+◌, ◌*◌, ◌≤◌}
use lib.ListN.{get_or}
use Rattle.store_cells.specs.Cells.{cells_of, Got, Put}
use Rattle.code.specs.Cells.{head_at, place_at, link_at}
use Rattle.store_writing.specs.Promises.{tail_with, Rewritten}
use Rattle.layout.specs.Parts.{link_part}
use Rattle.check_names.specs.Meanings.{first_meaning}
use Rattle.check_names.specs.Promises.{number_at, meaning_at, Number, Meant, Declared, Left}

pub meant : (code values : List ℕ) (i n r : ℕ) → Number code i n → Got values (first_meaning + n) r → Meant code values i r
meant code values i n r e g = g ∙ ap (λ (k : ℕ). get_or (cells_of values) (first_meaning + k) 0) e

pub declared : (code code' values values' : List ℕ) (i m n old place : ℕ) → Number code i n → Got values (first_meaning + n) old → place ≡ place_at (cells_of code) i
    → Rewritten code code' i old (place + link_part * n) → Put values values' (first_meaning + n) m → Declared code values i m code' values'
declared code code' values values' i m n old place e g t p w = record {
  word = subst (Rewritten code code' i (meaning_at (cells_of code) (cells_of values) i)) (ap₂ tail_with t e)
      (subst (λ (x : ℕ). Rewritten code code' i x (place + link_part * n)) (meant code values i n old e g) p);
  table = subst (λ (k : ℕ). Put values values' (first_meaning + k) m) e w;
}

pub left : (code values values' : List ℕ) (i n head : ℕ) → n ≡ link_at (cells_of code) i → head ≡ head_at (cells_of code) i → Put values values' (first_meaning + n) head → Left code values i values'
left code values values' i n head t e p = subst (λ (k : ℕ). Put values values' (first_meaning + k) (head_at (cells_of code) i)) t (subst (Put values values' (first_meaning + n)) e p)
