-- What promises settle of words that lead to others.
use mathlib.Core.Path.{◌≡◌, refl, sym, ap, ap₂, subst, ◌∙◌}
use mathlib.Core.Bool.{true, false}
use mathlib.Core.List.{List, [], ◌∷◌}
use Prim.Native.Nat.{ℕ, ◌+◌, ◌*◌, ◌/◌, ◌%◌, ◌<◌, ◌≤◌}
use native.Mathlib.Omega.{arith}
use lib.ListN.{length, get_or, drop, set}
use borrow.Author.Tests.{eq-eqb, ne_eqb, lt-ltb, le-ltb}
use Rattle.laws.proofs.Tests.{test, by_less, by-same}
use Rattle.store_cells.specs.Cells.{cells_of}
use Rattle.store_cells.proofs.Laws.{Bytes}
use Rattle.code.specs.Cells.{head_at, tail_at, op_at, value_at, place_at, link_at}
use Rattle.code.specs.Steps.{an_else_if, a_then, a_case, constant_at}
use Rattle.paper.specs.Sorts.{ELSE}
use Rattle.paper.specs.Trees.{Expr}
use Rattle.store_writing.specs.Promises.{head_with, tail_with, Linked, Rewritten}
use Rattle.store_writing.proofs.Keeping.{kept-wider}
use Rattle.store_writing.proofs.Rewriting.{rewritten-length, rewritten-drop}
use Rattle.check_load.proofs.Unique.{same_store}
use Rattle.check_links.specs.Resolved.{goes_by_link, goes_by_value, goes_by_place, beyond, Follows, Led, Resolved}
use Rattle.check_links.specs.Raw.{Ground, SameWords, RawConstants}
use Rattle.check_compounds.specs.Parts.{WhileEnded, ForEnded, BehindElse, ArmEnded, CaseChain, Chained, ValuesLinked}
use Rattle.unique.proofs.Stores.{same-behind}

-- ---- links that lead to the next step
-- Where the promise says to which word the links from a word lead in the end: from one word to the next, up to a step. Of others it says nothing, and no run reads them.
mutual
  pub data Leads (C : List ℕ) (words : ℕ) : ℕ → Type 0 where
    stays : {i : ℕ} → goes_by_link (op_at C i) ≡ false → Leads C words i
    to-arm : {i : ℕ} → op_at C i ≡ a_then → op_at C (link_at C i) ≡ an_else_if → link_at C i + 1 < words → Leads C words i
    leads-on : {i : ℕ} → goes_by_link (op_at C i) ≡ true → (op_at C i ≡ a_then → op_at C (link_at C i) ≡ an_else_if → ⊥) → Follows C words i (link_at C i) → Comes C words (link_at C i) → Leads C words i

  -- from the word that a list ends at
  pub data Comes (C : List ℕ) (words : ℕ) : ℕ → Type 0 where
    to_step : {z : ℕ} → op_at C z < an_else_if → Comes C words z
    behind-case : {z : ℕ} → op_at C z ≡ a_case → z + 1 < words → Leads C words (z + 1) → Comes C words z
    by_itself : {z : ℕ} → (op_at C z ≡ a_case → ⊥) → z < words → Leads C words z → Comes C words z

-- all ways from a word: by its link, its value and its place
pub record LeadsOn (C : List ℕ) (words i : ℕ) : Type 0 where
  pub link : Leads C words i
  pub value : goes_by_value (op_at C i) ≡ true → Follows C words i (value_at C i) × Comes C words (value_at C i)
  pub place : goes_by_place (op_at C i) ≡ true → Follows C words i (place_at C i) × Comes C words (place_at C i)

module _ (C D E : List ℕ) (words : ℕ) (p : (i : ℕ) → i < words → Led C D D words i) (q : (i : ℕ) → i < words → Led C E E words i) where
  beyond-step : (L : List ℕ) (z : ℕ) → op_at C z < an_else_if → beyond C L z ≡ z
  unfolding beyond
  beyond-step L z h = rw (lt-ltb (op_at C z) an_else_if h, beyond)

  beyond-case : (L : List ℕ) (z : ℕ) → (op_at C z < an_else_if → ⊥) → op_at C z ≡ a_case → beyond C L z ≡ link_at L (z + 1)
  unfolding beyond
  beyond-case L z h e = rw (le-ltb (op_at C z) an_else_if (omega arith), eq-eqb (op_at C z) a_case e, beyond)

  beyond-other : (L : List ℕ) (z : ℕ) → (op_at C z < an_else_if → ⊥) → (op_at C z ≡ a_case → ⊥) → beyond C L z ≡ link_at L z
  unfolding beyond
  beyond-other L z h e = rw (le-ltb (op_at C z) an_else_if (omega arith), ne_eqb (op_at C z) a_case e, beyond)

  mutual
    same-link : (i : ℕ) → i < words → Leads C words i → link_at D i ≡ link_at E i
    same-link i l (stays t) = (p i l).link t ∙ sym ((q i l).link t)
    same-link i l (to-arm a b c) = (p i l).link-then a b c ∙ sym ((q i l).link-then a b c)
    same-link i l (leads-on t n x g) = (p i l).link_on t n x ∙ same-beyond (link_at C i) g ∙ sym ((q i l).link_on t n x)

    same-beyond : (z : ℕ) → Comes C words z → beyond C D z ≡ beyond C E z
    same-beyond z (to_step h) = beyond-step D z h ∙ sym (beyond-step E z h)
    same-beyond z (behind-case e l g) =
        by_less (op_at C z) an_else_if (λ h. beyond-step D z h ∙ sym (beyond-step E z h))
        (λ h. beyond-case D z (λ k. omega arith) e ∙ same-link (z + 1) l g ∙ sym (beyond-case E z (λ k. omega arith) e))
    same-beyond z (by_itself e l g) =
        by_less (op_at C z) an_else_if (λ h. beyond-step D z h ∙ sym (beyond-step E z h))
        (λ h. beyond-other D z (λ k. omega arith) e ∙ same-link z l g ∙ sym (beyond-other E z (λ k. omega arith) e))

  same-value : (i : ℕ) → i < words → LeadsOn C words i → value_at D i ≡ value_at E i
  same-value i l g =
      test (goes_by_value (op_at C i)) (λ t. let x = g.value t in (p i l).value_on t x.0 ∙ same-beyond (value_at C i) x.1 ∙ sym ((q i l).value_on t x.0))
      (λ t. (p i l).value t ∙ sym ((q i l).value t))

  same_place : (i : ℕ) → i < words → LeadsOn C words i → place_at D i ≡ place_at E i
  same_place i l g =
      test (goes_by_place (op_at C i)) (λ t. let x = g.place t in (p i l).place-on t x.0 ∙ same-beyond (place_at C i) x.1 ∙ sym ((q i l).place-on t x.0))
      (λ t. (p i l).place t ∙ sym ((q i l).place t))

  same_word : (i : ℕ) → i < words → LeadsOn C words i → (head_at D i ≡ head_at E i) × (tail_at D i ≡ tail_at E i)
  same_word i l g =
      let op = (p i l).op ∙ sym (q i l).op in
      let value = same-value i l g in
      let place = same_place i l g in
      let link = same-link i l g.link in
      (omega arith, omega arith)

  same-cell : ((i : ℕ) → i < words → LeadsOn C words i) → (k : ℕ) → k < words * 2 → get_or D k 0 ≡ get_or E k 0
  same-cell g k h =
      let l : k / 2 < words = omega arith in
      let w = same_word (k / 2) l (g (k / 2) l) in
      by-same (k % 2) 0 (λ e. let at : k / 2 * 2 ≡ k = omega arith in subst (λ (n : ℕ). get_or D n 0 ≡ get_or E n 0) at w.0)
      (λ e. let at : k / 2 * 2 + 1 ≡ k = omega arith in subst (λ (n : ℕ). get_or D n 0 ≡ get_or E n 0) at w.1)

-- every word from which all ways lead on, and all bytes behind the words; where all words are such, every byte
pub record SameResolved (before a b : List ℕ) (words : ℕ) : Type 0 where
  pub word : (i : ℕ) → i < words → LeadsOn (cells_of before) words i → (head_at (cells_of a) i ≡ head_at (cells_of b) i) × (tail_at (cells_of a) i ≡ tail_at (cells_of b) i)
  pub past : drop (words * 8) a ≡ drop (words * 8) b
  pub long : length a ≡ length b
  pub whole : Bytes a → Bytes b → words * 8 ≤ length before → ((i : ℕ) → i < words → LeadsOn (cells_of before) words i) → a ≡ b

pub resolve-unique : (before a b : List ℕ) (words : ℕ) → Resolved before a words → Resolved before b words → SameResolved before a b words
resolve-unique before a b words p q =
    let at : words * 8 ≡ words * 2 * 4 = omega arith in
    let past = p.past ∙ sym q.past in
    record {
      word = same_word (cells_of before) (cells_of a) (cells_of b) words p.led q.led;
      past = past;
      long = p.long ∙ sym q.long;
      whole = λ x y room g.
          same_store (words * 2) a b x y (p.long ∙ sym q.long) (omega (arith, p.long)) (same-cell (cells_of before) (cells_of a) (cells_of b) words p.led q.led g)
          (subst (λ (n : ℕ). drop n a ≡ drop n b) at past);
    }

-- ---- words that close a list
-- Two stores of the same cells, and of the same bytes from word n on.
record Behind (x y : List ℕ) (n : ℕ) : Type 0 where
  cells : cells_of x ≡ cells_of y
  above : drop (n * 8) x ≡ drop (n * 8) y
  long : length x ≡ length y

behind-itself : (x : List ℕ) (n : ℕ) → Behind x x n
behind-itself x n = record { cells = refl; above = refl; long = refl }

behind-linked : (x y a b : List ℕ) (n i op value link : ℕ) → i < n → Behind x y n → Linked x a i op value link → Linked y b i op value link → Behind a b n
behind-linked x y a b n i op value link l h p q = record {
  cells = p.words ∙ ap (λ (C : List ℕ). set (set C (i * 2) (head_with op value)) (i * 2 + 1) (tail_with (place_at C i) link)) h.cells ∙ sym q.words;
  above = (kept-wider p.kept 0 n (omega arith) (omega arith)).above ∙ h.above ∙ sym (kept-wider q.kept 0 n (omega arith) (omega arith)).above;
  long = p.kept.long ∙ h.long ∙ sym q.kept.long;
}

behind-rewritten : (x y a b : List ℕ) (i head tail other : ℕ) → i * 8 + 8 ≤ length x → tail ≡ other → Behind x y (i + 1) → Rewritten x a i head tail → Rewritten y b i head other → Behind a b (i + 1)
behind-rewritten x y a b i head tail other room e h p q =
    let there : i * 8 + 8 ≤ length y = omega (arith, h.long) in
    record {
      cells = p.words ∙ ap₂ (λ (C : List ℕ) (t : ℕ). set (set C (i * 2) head) (i * 2 + 1) t) h.cells e ∙ sym q.words;
      above = rewritten-drop p room ((i + 1) * 8) (omega arith) ∙ h.above ∙ sym (rewritten-drop q there ((i + 1) * 8) (omega arith));
      long = rewritten-length p room ∙ h.long ∙ sym (rewritten-length q there);
    }

behind-bytes : (a b : List ℕ) (i : ℕ) → Bytes a → Bytes b → i * 8 + 8 ≤ length a → Behind a b (i + 1) → a ≡ b
behind-bytes a b i p q room h = same-behind a b i p q room h.long h.cells h.above

module _ (before a b : List ℕ) (x : Bytes a) (y : Bytes b) where
  pub while-end-unique : (i d e : ℕ) → i < d → d < e → e * 8 + 8 ≤ length before → WhileEnded before a i d e → WhileEnded before b i d e → a ≡ b
  while-end-unique i d e id de room p q =
      let one = behind-linked before before p.one q.one (e + 1) d _ _ _ (omega arith) (behind-itself before (e + 1)) p.opens q.opens in
      let two = behind-linked p.one q.one p.two q.two (e + 1) e _ _ _ (omega arith) one p.again q.again in
      let last = behind-linked p.two q.two a b (e + 1) i _ _ _ (omega arith) two p.head q.head in
      behind-bytes a b e x y (omega (arith, p.opens.kept.long, p.again.kept.long, p.head.kept.long)) last

  pub for-end-unique : (used i d e : ℕ) → i < d → d < e → e * 8 + 8 ≤ length before → ForEnded before a used i d e → ForEnded before b used i d e → a ≡ b
  for-end-unique used i d e id de room p q =
      let one = behind-linked before before p.one q.one (e + 1) d _ _ _ (omega arith) (behind-itself before (e + 1)) p.opens q.opens in
      let two = behind-linked p.one q.one p.two q.two (e + 1) i _ _ _ (omega arith) one p.head q.head in
      let there : e * 8 + 8 ≤ length p.two = omega (arith, p.opens.kept.long, p.head.kept.long) in
      let last = behind-rewritten p.two q.two a b e _ _ _ there (ap (λ (C : List ℕ). tail_with (place_at C i) (d + 1)) two.cells) two p.test q.test in
      behind-bytes a b e x y (omega (arith, rewritten-length p.test there)) last

  pub arm-end-unique : (op c t e : ℕ) → c < t → t * 8 + 8 ≤ length before → ArmEnded before a op c t e → ArmEnded before b op c t e → a ≡ b
  arm-end-unique op c t e ct room p q =
      let same : q.link ≡ p.link = else-unique e q.link p.link q.behind p.behind in
      let other : Linked before q.mid t a_then (t + 1) p.link = subst (Linked before q.mid t a_then (t + 1)) same q.then_is in
      let mid = behind-linked before before p.mid q.mid (t + 1) t _ _ _ (omega arith) (behind-itself before (t + 1)) p.then_is other in
      let last = behind-linked p.mid q.mid a b (t + 1) c _ _ _ (omega arith) mid p.arm_is q.arm_is in
      behind-bytes a b t x y (omega (arith, p.then_is.kept.long, p.arm_is.kept.long)) last
    where
      else-unique : (e r s : ℕ) → BehindElse before e r → BehindElse before e s → r ≡ s
      else-unique e r s p q = by-same (op_at (cells_of before) e) ELSE (λ h. p.at-else h ∙ sym (q.at-else h)) (λ h. p.elsewhere h ∙ sym (q.elsewhere h))

-- ---- the values of a CASE
-- All cells but those of the words between CASE's neighbour and the colon; of CASE itself its op, its place and its value. Between them both stores have the same values (`RawConstants`), at words that
-- the promise leaves open.
pub record SameValues (a b : List ℕ) (colon c : ℕ) : Type 0 where
  pub op : op_at (cells_of a) c ≡ op_at (cells_of b) c
  pub place : place_at (cells_of a) c ≡ place_at (cells_of b) c
  pub value : constant_at (cells_of a) c ≡ constant_at (cells_of b) c
  pub behind : SameWords (cells_of b) (cells_of a) (c + 1) (c + 2)
  pub below : (k : ℕ) → k < c * 2 → get_or (cells_of a) k 0 ≡ get_or (cells_of b) k 0
  pub above : (k : ℕ) → colon * 2 ≤ k → get_or (cells_of a) k 0 ≡ get_or (cells_of b) k 0
  pub long : length a ≡ length b

pub link-values-unique : (before a b : List ℕ) (colon next c : ℕ) → Chained before colon c → ValuesLinked before a colon next c → ValuesLinked before b colon next c → SameValues a b colon c
unfolding CaseChain RawConstants
link-values-unique before a b colon next c h p q = record {
  op = p.op ∙ sym q.op;
  place = p.place ∙ sym q.place;
  value = first h.es h.is;
  behind = record {
    heads = λ i l g. sym (q.behind.heads i l g) ∙ p.behind.heads i l g;
    tails = λ i l g. sym (q.behind.tails i l g) ∙ p.behind.tails i l g;
  };
  below = λ k l. p.outside.below k l ∙ sym (q.outside.below k l);
  above = λ k l. p.outside.above k l ∙ sym (q.outside.above k l);
  long = p.long ∙ sym q.long;
}
  where
    -- what values are read with; no more of it matters
    ground : Ground
    ground = record { m = 0; function = false; text = []; R = []; W = h.W; M = h.M; offset = λ i. i }

    first : (es : List Expr) → CaseChain h.W h.S h.M (cells_of before) es colon c → constant_at (cells_of a) c ≡ constant_at (cells_of b) c
    first [] z = absurd z
    first (e ∷ es) z = (p.values ground 0 h.S (e ∷ es) z).0 ∙ sym (q.values ground 0 h.S (e ∷ es) z).0
