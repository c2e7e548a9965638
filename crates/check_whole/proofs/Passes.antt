-- The passes: one law for each place where one of them returns.
use mathlib.Core.Path.{◌≡◌, refl, sym, ap, ap₂, subst, fun_ext, ◌∙◌}
use mathlib.Core.List.{List, [], ◌++◌, map}
use mathlib.Core.Option as math
use mathlib.Core.Option.{none, some}
use Prim.Native.Nat.{ℕ, ◌+◌, ◌-◌, ◌*◌, ◌<◌, ◌≤◌}
use native.Mathlib.Omega.{arith}
use lib.Dec.{ltb}
use lib.ListN.{length, get_or, take, drop, replicate, get_or-eq_default}
use lib.Seq.{take_all, drop-length}
use mir.Syntax.{w32}
use mir.Val.{to_z}
use borrow.Author.Tests.{ltb-true, ltb-false}
use Rattle.laws.proofs.Tests.{test, apart}
use Rattle.std.specs.Prelude.{Some, None, Result, Ok, Err}
use Rattle.paper.specs.Words.{Word, Refusal, reading, word_limit}
use Rattle.paper.specs.Trees.{Module}
use Rattle.paper.specs.Expressions.{Parsed, got, no}
use Rattle.paper.specs.Form.{formed}
use Rattle.paper.specs.Names.{no_word, nth, sort_in}
use Rattle.paper.specs.Types.{Fault}
use Rattle.paper.specs.Declarations.{module_data}
use Rattle.paper.specs.Checks.{faults}
use Rattle.paper.specs.Steps.{Program, program_of}
use Rattle.paper.specs.Answer.{Verdict, refused_by, accepted, refuse, offset_of, judge_main, judge_module, judge_form, judge_reading, verdict, store_words}
use Rattle.store_cells.specs.Cells.{cells_of, Cleared}
use Rattle.store_cells.proofs.Laws.{words_take}
use Rattle.store_cells.proofs.Kept.{clear-length, clear-take, clear_in}
use Rattle.code.specs.Holds.{Holds}
use Rattle.text_offsets.specs.Offsets.{Offset}
use Rattle.check_form.specs.Places.{Lent, sorts_in}
use Rattle.check_form.specs.Judged as form
use Rattle.check_form.specs.Judged.{Judged, outcome}
use Rattle.check_load.specs.Layout.{words_in}
use Rattle.check_load.specs.Loads.{Loaded, Loads, answer_of}
use Rattle.check_load.specs.Loads as loading
use Rattle.check_load.proofs.Bounds.{reading-most}
use Rattle.check_load.proofs.Results.{loads-sorts}
use Rattle.faults.proofs.First.{least-none, least_first}
use Rattle.check_links.specs.Resolved.{Resolved}
use Rattle.check_program.proofs.ProgramHeld.{module-holds}
use Rattle.check_heads.specs.Trees.{heads_for}
use Rattle.grammar.proofs.Reading.{formed-parses}
use Rattle.check_whole.proofs.Loaded.{module-words}
use Rattle.check_whole.proofs.Places.{offsets-same}
use Rattle.layout.specs.Broken.{number_of, as_fault}
use Rattle.layout.specs.declared.rules.Breach.{Breach}
use Rattle.layout.specs.declared.rules.Rule.TheVariants.{NoMain}
use Rattle.text_words.specs.declared.Refusal as refusals
use Rattle.text_words.specs.Answers.{as_refusal, told}
use Rattle.check_whole.specs.declared.Accepted as answers
use Rattle.check_whole.specs.Checks.{Checked, store_bytes, heads_in, Emptied, Judges}
use Rattle.check_whole.specs.Walks.{Found, Laid, Formed, Named, Nameless, Finds, Walks}
use Rattle.check_whole.specs.Passes.{Whole, Clean, Settles, Formal}
use Rattle.layout.specs.Rules.{no_main}
use Rattle.code.specs.Cells.{op_in}

-- ---- stores no longer than their cells
past : (l : List ℕ) → length l ≡ store_bytes → drop store_bytes l ≡ []
past l e = ap (λ (n : ℕ). drop n l) (sym e) ∙ drop-length l

same-past : (a b : List ℕ) → length a ≡ store_bytes → length b ≡ store_bytes → drop store_bytes a ≡ drop store_bytes b
same-past a b e f = past a e ∙ sym (past b f)

-- ---- what a pass before has changed
module _ (text code values code' values' : List ℕ) (w : Whole code values) (a : length code' ≡ length code) (b : length values' ≡ length values) where
  pub settled_before : (v : Verdict) (r : Checked) (code'' values'' : List ℕ) → Settles text code' values' v r code'' values'' → Settles text code values v r code'' values''
  unfolding Settles
  settled_before (refused_by f) r code'' values'' s = record { answer = s.answer; code-long = s.code-long ∙ a; values-long = s.values-long ∙ b }
  settled_before (accepted x) r code'' values'' s = record {
    R = s.R;
    heads-are = s.heads-are;
    answer = s.answer;
    holds = s.holds;
    there = s.there;
    alone = s.alone;
    words = s.words;
    zeros = s.zeros;
    code-past = s.code-past ∙ same-past code' code (a ∙ w.code-room) w.code-room;
    values-past = s.values-past ∙ same-past values' values (b ∙ w.values-room) w.values-room;
    code-long = s.code-long ∙ a;
    values-long = s.values-long ∙ b;
  }

pub words-few : (text code values : List ℕ) (words : ℕ) → Laid text code values words → words ≤ word_limit
words-few text code values words l = omega (arith, l.many, reading-most text)

-- ---- names and types
module _ (text code values : List ℕ) (words : ℕ) (f : Formed text code values words) (r : Found) (code' values' : List ℕ) (w : Walks text code values r code' values') where
  finds : (q : Found) → r ≡ q → Finds text f.m q code' values'
  finds q e = subst (λ (x : Found). Finds text f.m x code' values') e (w.finds f.m f.form)

  pub words-fit : words * 8 ≤ length code'
  words-fit = omega (arith, words-few text code values words f.laid, w.code-long, f.laid.code-room)

  pub names-refused : (broken : Breach) (t : refusals.Refusal) → r ≡ Err broken → (t.rule ≡ broken.rule) × Offset text broken.word t.place → Formal text code values (Err t) code' values'
  unfolding judge_form judge_module Settles Finds
  names-refused broken t e p =
      let v : judge_form text (words_in text) (formed (sort_in (words_in text))) ≡ refuse (number_of broken.rule) (offset_of text (words_in text) broken.word)
      = ap (judge_form text (words_in text)) f.form ∙ ap (judge_module text (words_in text) f.m) (least_first (as_fault broken) (faults (words_in text) f.m) (finds _ e)) in
      rw v (record { answer = record { refusal = t; answer = refl; number-is = ap number_of p.0; offset-is = p.1 }; code-long = w.code-long; values-long = w.values-long })

  pub main-missing : (count : ℕ) → r ≡ Ok (count, None) → Formal text code values (Err (record { rule = NoMain; place = 0 })) code' values'
  unfolding judge_form judge_module judge_main Settles Finds
  main-missing count e =
      let n : Nameless text f.m = finds _ e in
      let v : judge_form text (words_in text) (formed (sort_in (words_in text))) ≡ refuse no_main 0
      = ap (judge_form text (words_in text)) f.form ∙ ap (judge_module text (words_in text) f.m) (least-none (faults (words_in text) f.m) n.clear) ∙ ap (judge_main (words_in text) f.m) n.main-is in
      rw v (record { answer = record { refusal = record { rule = NoMain; place = 0 }; answer = refl; number-is = refl; offset-is = refl }; code-long = w.code-long; values-long = w.values-long })

  module _ (count main : ℕ) (e : r ≡ Ok (count, Some main)) where
    named : Named text f.m count main code' values'
    unfolding Finds
    named = finds _ e

    pub count_small : count ≤ store_words
    count_small =
        let n = named in
        omega (arith, n.raw.room, n.count-is, ap (λ (W : List Word). length (module_data W f.m).words) n.words_are)

    pub count_fits : (count + (store_words - count)) * 4 ≤ length values'
    count_fits = omega (arith, count_small, w.values-long, f.laid.values-room)

    module _ (code'' values'' : List ℕ) (resolved : Resolved code' code'' words) (cleared : Cleared values' values'' count (store_words - count)) where
      abbrev W : List Word
      W = words_in text

      abbrev P : Program
      P = program_of W f.m

      code-whole : length code'' ≡ store_bytes
      code-whole = resolved.long ∙ w.code-long ∙ f.laid.code-room

      values_same : length values'' ≡ length values'
      values_same = clear-length cleared count_fits

      holds-here : Holds text named.g.R (offset_of text W) (cells_of (take store_bytes code'')) P
      holds-here =
          let n = named in
          let h : Holds n.g.text n.g.R n.g.offset (cells_of code'') (program_of n.g.W f.m)
          = module-holds n.g f.m code' code'' (length W) n.raw (subst (Resolved code' code'') f.laid.many resolved) in
          let k : Holds text n.g.R n.g.offset (cells_of code'') P
          = subst (λ (t : List ℕ). Holds t n.g.R n.g.offset (cells_of code'') P) n.text-is
          (subst (λ (x : List Word). Holds n.g.text n.g.R n.g.offset (cells_of code'') (program_of x f.m)) n.words_are h) in
          let at = (formed-parses (sort_in W) f.m f.form).form in
          let q : length W ≡ at.end + 1 = module-words text f.m (formed-parses (sort_in W) f.m f.form) in
          rw (take_all store_bytes code'' (omega (arith, code-whole))) (offsets-same (length W) n.g.offset (offset_of text W) n.offset-is W f.m text n.g.R (cells_of code'') at.begin at.end at.routines (omega arith) k)

      heads-here : heads_in W ≡ heads_for f.m.routines
      unfolding heads_in
      heads-here = rw (f.form, heads_in)

      words-here : map (to_z w32) (take count (cells_of values'')) ≡ (module_data W f.m).words
      words-here =
          ap (map (to_z w32)) (sym (words_take count values'') ∙ ap cells_of (clear-take cleared count_fits (count * 4) (omega arith)) ∙ words_take count values') ∙ named.values-are

      -- the answer, by its parts
      abbrev counted : (n d h : ℕ) → Checked
      counted n d h = Ok (record { words = n; count = d; main = h })

      pub names-accepted : Formal text code values (counted words count main) code'' values''
      unfolding judge_form judge_module judge_main Settles program_of
      names-accepted =
          let n = named in
          let v : judge_form text W (formed (sort_in W)) ≡ accepted (record { words = W; program = P; main = n.number })
          = ap (judge_form text W) f.form ∙ ap (judge_module text W f.m) (least-none (faults W f.m) n.clear) ∙ ap (judge_main W f.m) n.main-is in
          rw v (record {
            R = n.g.R;
            heads-are = n.heads-are ∙ sym heads-here;
            answer = ap₂ (λ (a b : ℕ). counted a b main) f.laid.many n.count-is ∙ ap (counted (length W) (length (module_data W f.m).words)) (sym n.begins);
            holds = holds-here;
            there = n.there;
            alone = n.alone;
            words = ap (λ (k : ℕ). map (to_z w32) (take k (cells_of values''))) (sym n.count-is) ∙ words-here;
            zeros = λ c a b. zero-at c (omega (arith, n.count-is)) b;
            code-past = same-past code'' code code-whole f.laid.code-room;
            values-past = same-past values'' values (values_same ∙ w.values-long ∙ f.laid.values-room) f.laid.values-room;
            code-long = resolved.long ∙ w.code-long;
            values-long = values_same ∙ w.values-long;
          })
        where
          zero-at : (c : ℕ) → count ≤ c → c < store_words → get_or (cells_of values'') c 0 ≡ 0
          zero-at c a b =
              let e : c ≡ count + (c - count) = omega arith in
              rw e (clear_in cleared count_fits (c - count) (omega arith))

-- ---- the form
module _ (text code values : List ℕ) (words : ℕ) (l : Laid text code values words) where
  pub words-lent : Lent code words
  words-lent = record { few = omega (arith, l.many, reading-most text); long = omega (arith, l.many, reading-most text, l.code-room) }

  nothing-behind : (i : ℕ) → length (words_in text) ≤ i → sort_in (words_in text) i ≡ 0
  unfolding sort_in nth no_word
  nothing-behind i h = ap (λ (w : Word). w.sort) (get_or-eq_default (words_in text) no_word h)

  same-sorts : sorts_in code words ≡ sort_in (words_in text)
  unfolding sorts_in
  same-sorts = fun_ext at
    where
      at : (i : ℕ) → sorts_in code words i ≡ sort_in (words_in text) i
      at i =
          test (ltb i words)
          (λ t. rw (t, sorts_in) (ap (λ (k : ℕ). op_in (get_or (cells_of code) k 0)) (omega arith) ∙ loads-sorts text l.code₀ l.values₀ l.answer code values l.loads i (omega (arith, ltb-true i words t, l.many))))
          (λ t. rw (t, sorts_in) (sym (nothing-behind i (omega (arith, ltb-false i words t, l.many)))))

  module _ (r : Result (Unit {0}) Breach) (j : Judged code words r) where
    judged-so : form.told r ≡ outcome (formed (sort_in (words_in text)))
    judged-so = j ∙ ap (λ (s : ℕ → ℕ). outcome (formed s)) same-sorts

    pub form-refused : (broken : Breach) (t : refusals.Refusal) → r ≡ Err broken → (t.rule ≡ broken.rule) × Offset text broken.word t.place → Formal text code values (Err t) code values
    unfolding judge_form Settles
    form-refused broken t e p = go (formed (sort_in (words_in text))) refl
      where
        go : (x : Parsed Module) → formed (sort_in (words_in text)) ≡ x → Settles text code values (judge_form text (words_in text) (formed (sort_in (words_in text)))) (Err t) code values
        go (got m) q = let s : form.told (Err broken) ≡ outcome (got m) = sym (ap form.told e) ∙ judged-so ∙ ap outcome q in apart (cc)
        go (no k i) q =
            let s : form.told (Err broken) ≡ outcome (no k i) = sym (ap form.told e) ∙ judged-so ∙ ap outcome q in
            let h : as_fault broken ≡ record { number = k; at = i } = cc in
            rw (q) (record {
              answer = record {
                refusal = t;
                answer = refl;
                number-is = ap number_of p.0 ∙ ap (λ (x : Fault). x.number) h;
                offset-is = p.1 ∙ ap (λ (x : Fault). offset_of text (words_in text) x.at) h;
              };
              code-long = refl;
              values-long = refl;
            })

    pub form-right : (u : Unit {0}) → r ≡ Ok u → Formed text code values words
    form-right u e = go (formed (sort_in (words_in text))) refl
      where
        go : (x : Parsed Module) → formed (sort_in (words_in text)) ≡ x → Formed text code values words
        go (got m) q = record { laid = l; m = m; form = q }
        go (no k i) q = let s : form.told (Ok u) ≡ outcome (no k i) = sym (ap form.told e) ∙ judged-so ∙ ap outcome q in apart (cc)

-- ---- the loading
module _ (text code values : List ℕ) (c : Clean code values) where
  pub cells-ready : loading.Ready code values
  cells-ready = record { code-room = omega (arith, c.whole.code-room); values-room = omega (arith, c.whole.values-room); clean = c.zeros }

  module _ (r : Loaded) (code' values' : List ℕ) (h : Loads text code values r code' values') where
    pub words-laid : (words : ℕ) → r ≡ Ok words → Laid text code' values' words
    words-laid words e = record {
      code₀ = code;
      values₀ = values;
      answer = r;
      loads = h;
      many = go (reading text).refusal h.answer;
      code-room = h.keeping.code-size ∙ c.whole.code-room;
      values-room = h.keeping.values-size ∙ c.whole.values-room;
    }
      where
        go : (x : math.Option Refusal) → told r ≡ answer_of (length (words_in text)) x → words ≡ length (words_in text)
        go none q = let s : told (Ok words) ≡ answer_of (length (words_in text)) none = sym (ap told e) ∙ q in cc
        go (some f) q = let s : told (Ok words) ≡ answer_of (length (words_in text)) (some f) = sym (ap told e) ∙ q in apart (cc)

    pub text-refused : (t : refusals.Refusal) → r ≡ Err t → Settles text code values (verdict text) (Err t) code' values'
    unfolding verdict judge_reading Settles
    text-refused t e = go (reading text).refusal refl
      where
        so : (x : math.Option Refusal) → (reading text).refusal ≡ x → told (Err t) ≡ answer_of (length (words_in text)) x
        so x q = sym (ap told e) ∙ h.answer ∙ ap (answer_of (length (words_in text))) q

        go : (x : math.Option Refusal) → (reading text).refusal ≡ x → Settles text code values (verdict text) (Err t) code' values'
        go none q = let s = so none q in apart (cc)
        go (some f) q =
            let s = so (some f) q in
            let a : as_refusal t ≡ f = cc in
            rw (q, judge_reading) (record {
              answer = record { refusal = t; answer = refl; number-is = ap (λ (x : Refusal). x.number) a; offset-is = ap (λ (x : Refusal). x.offset) a };
              code-long = h.keeping.code-size;
              values-long = h.keeping.values-size;
            })

    pub text-read : (words : ℕ) (a : Checked) (code'' values'' : List ℕ) → r ≡ Ok words → Formal text code' values' a code'' values'' → Settles text code values (verdict text) a code'' values''
    unfolding verdict judge_reading
    text-read words a code'' values'' e k = go (reading text).refusal refl
      where
        go : (x : math.Option Refusal) → (reading text).refusal ≡ x → Settles text code values (verdict text) a code'' values''
        go none q =
            let v : verdict text ≡ judge_form text (words_in text) (formed (sort_in (words_in text))) = rw (q, judge_reading) in
            subst (λ (x : Verdict). Settles text code values x a code'' values'') (sym v) (settled_before text code values code' values' c.whole h.keeping.code-size h.keeping.values-size _ a code'' values'' k)
        go (some f) q = let s : told (Ok words) ≡ answer_of (length (words_in text)) (some f) = sym (ap told e) ∙ h.answer ∙ ap (answer_of (length (words_in text))) q in apart (cc)

-- ---- clearing
module _ (code values values₁ : List ℕ) (w : Whole code values) (z : Cleared values values₁ 0 store_words) where
  still-long : length values₁ ≡ length values
  still-long = clear-length z (omega (arith, w.values-room))

  from_zero : (k : ℕ) → 0 + k ≡ k
  from_zero k = omega arith

  pub clean-now : Clean code values₁
  clean-now = record { whole = record { code-room = w.code-room; values-room = still-long ∙ w.values-room }; zeros = λ k h. subst (λ (i : ℕ). get_or (cells_of values₁) i 0 ≡ 0) (from_zero k) (clear_in z (omega (arith, w.values-room)) k h) }

  module _ (text : List ℕ) (r : Checked) (code' values' : List ℕ) (s : Settles text code values₁ (verdict text) r code' values') where
    settled : Settles text code values (verdict text) r code' values'
    settled = settled_before text code values code values₁ w refl still-long (verdict text) r code' values' s

    pub accepted-so : (a : answers.Accepted) → r ≡ Ok a → Judges text code values (verdict text) (Ok a) code' values'
    unfolding Settles Judges
    accepted-so a e = go (verdict text) (subst (λ (x : Checked). Settles text code values (verdict text) x code' values') e settled)
      where
        go : (v : Verdict) → Settles text code values v (Ok a) code' values' → Judges text code values v (Ok a) code' values'
        go (refused_by f) k = let q = k.answer.answer in apart (cc)
        go (accepted x) k = k

    pub refused-so : (t : refusals.Refusal) (code'' values'' : List ℕ) → r ≡ Err t → Cleared code' code'' 0 store_words → Cleared values' values'' 0 store_words
        → Judges text code values (verdict text) (Err t) code'' values''
    unfolding Settles Judges
    refused-so t code'' values'' e y x = go (verdict text) (subst (λ (x : Checked). Settles text code values (verdict text) x code' values') e settled)
      where
        emptied : (before between after : List ℕ) → length before ≡ store_bytes → length between ≡ store_bytes → Cleared between after 0 store_words → Emptied before after
        emptied before between after a b k = k.bytes ∙ ap (λ (l : List ℕ). replicate store_bytes 0 ++ l) (same-past between before b a)

        go : (v : Verdict) → Settles text code values v (Err t) code' values' → Judges text code values v (Err t) code'' values''
        go (refused_by f) k = record {
          answer = k.answer;
          code-empty = emptied code code' code'' w.code-room (k.code-long ∙ w.code-room) y;
          values-empty = emptied values values' values'' w.values-room (k.values-long ∙ w.values-room) x;
        }
        go (accepted x) k = let q = k.answer in apart (cc)
