-- What the pass over heads settles: main's first word, every byte outside of the module's words, the words that it may not change, what the code store says of each routine, and what the table
-- says of each name. Open are bits that say nothing: the value of a type that is no parameter's or result's or is refused, and of a cell whose meaning has none.
use Rattle.std.specs.Prelude as optional
use Rattle.std.specs.Prelude.{Some, None}
use mathlib.Core.Path.{◌≡◌, refl, sym, ap, ◌∙◌}
use mathlib.Core.Bool.{false}
use mathlib.Core.List.{List}
use mathlib.Core.Option.{Option, none, some}
use Prim.Native.Nat.{ℕ, ◌*◌, ◌<◌}
use lib.ListN.{length, get_or, take, drop}
use Rattle.laws.proofs.Tests.{apart}
use Rattle.paper.specs.Trees.{Module}
use Rattle.paper.specs.Checks.{main_of}
use Rattle.store_cells.specs.Cells.{cells_of}
use Rattle.code.specs.Cells.{head_at, tail_at, op_at}
use Rattle.code.specs.Steps.{Head, no_head, numbered}
use Rattle.code.specs.Signatures.{head_in, signature_in}
use Rattle.check_names.specs.Meanings.{first_meaning}
use Rattle.check_names.specs.Promises.{store_bytes}
use Rattle.check_load.specs.Layout.{words_in}
use Rattle.check_heads.specs.Trees.{heads_for}
use Rattle.check_heads.specs.Stores.{is_valued}
use Rattle.check_heads.specs.Reads.{Begins, MainAt, Foretells, Reads}
use Rattle.unique.proofs.Names.{SameMeans, means-unique}

-- main is there, and is not
neither : {A : Type 0} (R : List Head) (main : Option ℕ) {k : ℕ} → main ≡ none → main ≡ some k → A
neither R main {k} e g = let z : none ≡ some k = sym e ∙ g in apart (cc)

pub main-unique : (R : List Head) (main : Option ℕ) (r s : optional.Option ℕ) → MainAt R main r → MainAt R main s → r ≡ s
main-unique R main None None p q = refl
main-unique R main None (Some k) p q = neither R main (p.missing refl) (q.found k refl)
main-unique R main (Some h) None p q = neither R main (q.missing refl) (p.found h refl)
main-unique R main (Some h) (Some k) p q =
    let same : some (numbered R h) ≡ some (numbered R k) = sym (p.found h refl) ∙ q.found k refl in
    let number : numbered R h ≡ numbered R k = cc in
    ap Some (sym (p.begins h refl) ∙ ap (λ (n : ℕ). (get_or R n no_head).word) number ∙ q.begins k refl)

-- the code store, of which the words from `first` up to `text_words` are the module's
pub record SameHeads (R : List Head) (code c d : List ℕ) (first words : ℕ) : Type 0 where
  pub below : take (first * 2 * 4) c ≡ take (first * 2 * 4) d
  pub above : drop (words * 2 * 4) c ≡ drop (words * 2 * 4) d
  pub long : length c ≡ length d
  pub ops : (i : ℕ) → op_at (cells_of c) i ≡ op_at (cells_of d) i
  pub tails : (i : ℕ) → tail_at (cells_of c) i ≡ tail_at (cells_of d) i
  pub others : (i : ℕ) → is_valued (op_at (cells_of code) i) ≡ false → head_at (cells_of c) i ≡ head_at (cells_of d) i
  pub routines : (k : ℕ) → k < length R → head_in (cells_of c) (get_or R k no_head).word ≡ head_in (cells_of d) (get_or R k no_head).word
  pub signatures : (k : ℕ) → k < length R → signature_in (cells_of c) (get_or R k no_head).word ≡ signature_in (cells_of d) (get_or R k no_head).word

-- the value store: all but the table, and what the table says
pub record SameTable (text : List ℕ) (m : Module) (v w : List ℕ) : Type 0 where
  pub names : SameMeans (numbered (heads_for m.routines)) (words_in text) (cells_of v) (cells_of w)
  pub zeros : (k : ℕ) → k < first_meaning → get_or (cells_of v) k 0 ≡ get_or (cells_of w) k 0
  pub beyond : drop store_bytes v ≡ drop store_bytes w
  pub long : length v ≡ length w

module _ (text code values c d v w : List ℕ) (r s : optional.Option ℕ) where
  module _ (words : ℕ) (m : Module) (p : Foretells text code values c v r words m) (q : Foretells text code values d w s words m) where
    same-heads : SameHeads (heads_for m.routines) code c d 2 words
    same-heads = record {
      below = p.marked.kept.below ∙ sym q.marked.kept.below;
      above = p.marked.kept.above ∙ sym q.marked.kept.above;
      long = p.marked.kept.long ∙ sym q.marked.kept.long;
      ops = λ i. p.marked.ops i ∙ sym (q.marked.ops i);
      tails = λ i. p.marked.tails i ∙ sym (q.marked.tails i);
      others = λ i h. p.marked.heads i h ∙ sym (q.marked.heads i h);
      routines = λ k h. sym (p.heads.each k h).head-is ∙ (q.heads.each k h).head-is;
      signatures = λ k h. sym (p.heads.each k h).signature-is ∙ (q.heads.each k h).signature-is;
    }

    same-table : SameTable text m v w
    same-table = record {
      names = means-unique _ _ _ (cells_of v) (cells_of w) p.tables.means q.tables.means;
      zeros = λ k h. p.filled.zeros k h ∙ sym (q.filled.zeros k h);
      beyond = p.filled.beyond ∙ sym q.filled.beyond;
      long = p.filled.long ∙ sym q.filled.long;
    }

  pub read-unique : (g : Begins text code values) → Reads text code values c v r → Reads text code values d w s
      → (r ≡ s) × SameHeads (heads_for g.m.routines) code c d 2 g.stands.words × SameTable text g.m v w
  read-unique g p q =
      let words = g.stands.words in
      (main-unique _ (main_of (words_in text) g.m) r s (p.is g).main (q.is g).main, same-heads words g.m (p.is g) (q.is g), same-table words g.m (p.is g) (q.is g))
