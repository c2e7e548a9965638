-- A class that is not refused has passed every test.
use mathlib.Core.Path.{◌≡◌, refl, sym, ap, ◌∙◌}
use mathlib.Core.Bool.{Bool, true, false, ◌||◌}
use mathlib.Core.List.{List}
use Prim.Native.Nat.{ℕ, suc, ◌*◌, ◌≤◌, ◌<◌}
use native.Mathlib.Omega.{arith}
use lib.Dec.{eqb, ltb}
use lib.ListN.{length}
use borrow.Author.Tests.{eqb-true, eqb-false, ltb-false, eq-eqb, ne_eqb}
use Rattle.laws.proofs.Tests.{test, apart, false-true}
use Rattle.paper.specs.Declarations.{module_word_limit}
use Rattle.paper.specs.Answer.{store_words, depth_limit}
use Rattle.classes.specs.Classes.{ClassQuestion, sum, record_words, class_limit, add_up, too_many, too_short, class_refusal, ClassLent, class_question_of, taken, refused, untouched, class_call}

pub record Good (q : ClassQuestion) : Type 0 where
  pub code-room : store_words ≤ q.code
  pub values-room : store_words ≤ q.values
  pub some : 0 < q.depth
  pub most : q.depth ≤ depth_limit
  pub adds-up : sum q.lengths ≡ length q.texts
  pub few : length q.lengths ≤ class_limit
  pub records-room : record_words * length q.lengths ≤ q.records
  pub data-room : module_word_limit * length q.lengths ≤ q.module-data

neither : (a b : Bool) → (a || b) ≡ false → (a ≡ false) × (b ≡ false)
neither false false e = (refl, refl)
neither false true e = false-true (sym e)
neither true b e = false-true (sym e)

-- A test that refuses, and what comes behind it.
stops : Bool → (n rest : ℕ) → ℕ
stops b n rest = elim b [ true ↦ n | false ↦ rest ]

passed : (b : Bool) (n rest : ℕ) → stops b (suc n) rest ≡ 0 → (b ≡ false) × (rest ≡ 0)
unfolding stops
passed true n rest e = apart (omega arith)
passed false n rest e = (refl, e)

-- One that refuses unless it holds.
asks : Bool → (n rest : ℕ) → ℕ
asks b n rest = elim b [ false ↦ n | true ↦ rest ]

met : (b : Bool) (n rest : ℕ) → asks b (suc n) rest ≡ 0 → (b ≡ true) × (rest ≡ 0)
unfolding asks
met false n rest e = apart (omega arith)
met true n rest e = (refl, e)

pub good : (q : ClassQuestion) → class_refusal q ≡ 0 → Good q
unfolding class_refusal stops asks add_up too_many too_short
good q e =
    let lists = stops (too_short q) 27 0 in
    let many = stops (too_many q) 21 lists in
    let adds = asks (add_up q) 20 many in
    let deep = stops (eqb q.depth 0 || ltb depth_limit q.depth) 2 adds in
    let (s, e₁) = passed (ltb q.code store_words || ltb q.values store_words) 0 deep e in
    let (d, e₂) = passed (eqb q.depth 0 || ltb depth_limit q.depth) 1 adds e₁ in
    let (a, e₃) = met (add_up q) 19 many e₂ in
    let (m, e₄) = passed (too_many q) 20 lists e₃ in
    let (t, e₅) = passed (too_short q) 26 0 e₄ in
    let (c, v) = neither (ltb q.code store_words) (ltb q.values store_words) s in
    let (z, f) = neither (eqb q.depth 0) (ltb depth_limit q.depth) d in
    let (r, w) = neither (ltb q.records (record_words * length q.lengths)) (ltb q.module-data (module_word_limit * length q.lengths)) t in
    let n : q.depth ≡ 0 → ⊥ = eqb-false q.depth 0 z in
    record {
      code-room = ltb-false q.code store_words c;
      values-room = ltb-false q.values store_words v;
      some = omega (arith, n);
      most = ltb-false depth_limit q.depth f;
      adds-up = eqb-true (sum q.lengths) (length q.texts) a;
      few = ltb-false class_limit (length q.lengths) m;
      records-room = ltb-false q.records (record_words * length q.lengths) r;
      data-room = ltb-false q.module-data (module_word_limit * length q.lengths) w;
    }

pub is-taken : (l : ClassLent) → class_refusal (class_question_of l) ≡ 0 → class_call l ≡ taken l
unfolding class_call
is-taken l e = rw (eq-eqb (class_refusal (class_question_of l)) 0 e, class_call)

pub is-untouched : (l : ClassLent) → class_refusal (class_question_of l) ≡ 1 → class_call l ≡ untouched l
unfolding class_call
is-untouched l e = rw (e, class_call) (rw e)

pub is-refused : (l : ClassLent) → (class_refusal (class_question_of l) ≡ 0 → ⊥) → (class_refusal (class_question_of l) ≡ 1 → ⊥) → class_call l ≡ refused l (class_refusal (class_question_of l))
unfolding class_call
is-refused l z o = rw (ne_eqb (class_refusal (class_question_of l)) 0 z, class_call) (rw (ne_eqb (class_refusal (class_question_of l)) 1 o))

-- One that is not refused by 1 has both stores.
pub stores-lent : (q : ClassQuestion) → (class_refusal q ≡ 1 → ⊥) → (store_words ≤ q.code) × (store_words ≤ q.values)
unfolding class_refusal
stores-lent q d =
    test (ltb q.code store_words || ltb q.values store_words)
    (λ t. absurd (d (rw (t, class_refusal))))
    (λ f. let (c, v) = neither (ltb q.code store_words) (ltb q.values store_words) f in (ltb-false q.code store_words c, ltb-false q.values store_words v))
