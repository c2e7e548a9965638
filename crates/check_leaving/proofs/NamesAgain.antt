-- Leaving a routine: what its names mean again.
use mathlib.Core.Path.{◌≡◌, refl, sym, ap, subst, ◌∙◌}
use mathlib.Core.Bool.{true, false}
use mathlib.Core.List.{List, [], ◌∷◌, ◌++◌, map}
use Prim.Native.Nat.{ℕ, zero, suc, ◌+◌, ◌-◌, ◌*◌, ◌<◌, ◌≤◌}
use native.Mathlib.Omega.{arith}
use lib.Dec.{eqb}
use mir.Syntax.{w64}
use mir.Val.{Fits}
use lib.ListN.{length, get_or}
use borrow.Author.Tests.{eq-eqb, ne_eqb}
use Rattle.laws.proofs.Tests.{test}
use Rattle.paper.specs.Sorts.{equal_texts}
use Rattle.paper.specs.Words.{Word, word_limit}
use Rattle.paper.specs.Names.{Text, spelled, is_among, meaning}
use Rattle.store_cells.specs.Cells.{cells_of}
use Rattle.store_cells.proofs.Kept.{put-length, put_same, put_other}
use Rattle.code.specs.Cells.{op_at, head_at, link_at}
use Rattle.code.specs.Steps.{a_datum}
use Rattle.check_names.specs.Numbers.{number_of, IsName}
use Rattle.check_names.specs.Meanings.{Means, meaning_in, is_protected, protects_cell, first_meaning, cell_for}
use Rattle.check_names.specs.Promises.{store_bytes, Left, Links}
use Rattle.check_names.specs.declared.Scope.{Scope}
use Rattle.check_names.proofs.Spellings.{same-texts, differing, number-most, numbers-same, spellings-same}
use Rattle.check_sites.specs.Sites.{Site}
use Rattle.store_writing.specs.Chains.{Leads, last_of, Chain, Rise}
use Rattle.check_sites.specs.Walks.{outer_of, KeepsName, KeepsAll, name_of, name_words}
use Rattle.check_leaving.specs.Answers.{MeansBut, SameWords, Leaving}
use Rattle.check_leaving.specs.Answers as answers
use Rattle.check_leaving.specs.Parts.{ParametersKept, LeavesParameters, DataKept, LeavesData}
use Rattle.check_sites.proofs.TwoSites.{among-further}
use Rattle.check_sites.proofs.DataChain.{rise-last, rise-few, map-append}

-- ---- one name
module _ (routine : ℕ → ℕ) (W : List Word) (s : Site) (code values values' : List ℕ) (i : ℕ) (k : KeepsName routine W s (cells_of code) i) where
  pub links : Links code i
  links = omega (arith, k.keeps.number, number-most W i k.name, k.near)

  module _ (l : Left code values i values') (room : store_bytes ≤ length values) where
    row : (first_meaning + link_at (cells_of code) i) * 4 + 4 ≤ length values
    row = omega (arith, links, room)

    pub left-long : length values' ≡ length values
    left-long = put-length l row

    pub left-same : SameWords values values'
    left-same = record { is = λ c h. put_other l row c (λ e. omega (arith, e, h)) }

    -- the cell of a name with this spelling, and of one with another
    here : (j : ℕ) → spelled W j ≡ spelled W i → cell_for W (cells_of values') j ≡ head_at (cells_of code) i
    here j e = ap (λ (n : ℕ). get_or (cells_of values') (first_meaning + n) 0) (spellings-same W j i e ∙ sym k.keeps.number) ∙ put_same l row

    elsewhere : (j : ℕ) → IsName W j → (spelled W j ≡ spelled W i → ⊥) → cell_for W (cells_of values') j ≡ cell_for W (cells_of values) j
    elsewhere j n d = put_other l row (first_meaning + number_of W j) (λ e. d (numbers-same W j i n k.name (omega (arith, e, k.keeps.number))))

    pub left-but : (texts : List Text) → MeansBut (spelled W i ∷ texts) routine W (outer_of W s) (cells_of values) → MeansBut texts routine W (outer_of W s) (cells_of values')
    left-but texts o = record {
      means = λ j n q. test (equal_texts (spelled W i) (spelled W j))
          (λ t. let e = same-texts (spelled W i) (spelled W j) t in ap (meaning_in routine) (here j (sym e)) ∙ k.keeps.means ∙ ap (meaning (outer_of W s)) e)
          (λ t. ap (meaning_in routine) (elsewhere j n (λ e. differing (spelled W i) (spelled W j) t (sym e))) ∙ o.means j n (among-further (spelled W i) (spelled W j) texts t ∙ q));
      guards = λ j n q. test (equal_texts (spelled W i) (spelled W j))
          (λ t. let e = same-texts (spelled W i) (spelled W j) t in ap protects_cell (here j (sym e)) ∙ k.keeps.guards ∙ ap is_protected e)
          (λ t. ap protects_cell (elsewhere j n (λ e. differing (spelled W i) (spelled W j) t (sym e))) ∙ o.guards j n (among-further (spelled W i) (spelled W j) texts t ∙ q));
    }

same-on : {a b c : List ℕ} → SameWords a b → SameWords b c → SameWords a c
same-on p q = record { is = λ k h. q.is k h ∙ p.is k h }

-- ---- parameters
pub record Parameting {code values₀ : List ℕ} {first count : ℕ} (b : ParametersKept code values₀ first count) (values : List ℕ) (at left : ℕ) : Type 0 where
  pub near : at + 3 * left < word_limit
  pub keeps : KeepsAll b.routine b.W b.s (cells_of code) (name_words at left)
  pub others : MeansBut (map (spelled b.W) (name_words at left) ++ b.texts) b.routine b.W (outer_of b.W b.s) (cells_of values)

pub record ParametersLeft (code values₀ : List ℕ) (first count : ℕ) (values : List ℕ) (at left : ℕ) : Type 0 where
  pub long : length values ≡ length values₀
  pub same : SameWords values₀ values
  pub kept : (b : ParametersKept code values₀ first count) → Parameting b values at left

pub parameters-kept : (code values : List ℕ) (first count : ℕ) → ParametersLeft code values first count values first count
parameters-kept code values first count = record {
  long = refl;
  same = record { is = λ k h. refl };
  kept = λ b. record { near = b.near; keeps = b.keeps; others = b.others };
}

first-kept : (routine : ℕ → ℕ) (W : List Word) (s : Site) (C : List ℕ) (at left : ℕ) → 0 < left → KeepsAll routine W s C (name_words at left) → KeepsName routine W s C (at + 1) × KeepsAll routine W s C (name_words (at + 3) (left - 1))
unfolding KeepsAll name_words
first-kept routine W s C at zero h k = absurd (omega arith)
first-kept routine W s C at (suc n) h k = let e : n ≡ suc n - 1 = omega arith in (k.0, subst (λ (j : ℕ). KeepsAll routine W s C (name_words (at + 3) j)) e k.1)

first-texts : (W : List Word) (at left : ℕ) (texts : List Text) → 0 < left → map (spelled W) (name_words at left) ++ texts ≡ spelled W (at + 1) ∷ (map (spelled W) (name_words (at + 3) (left - 1)) ++ texts)
unfolding name_words
first-texts W at zero texts h = absurd (omega arith)
first-texts W at (suc n) texts h = let e : n ≡ suc n - 1 = omega arith in ap (λ (j : ℕ). spelled W (at + 1) ∷ (map (spelled W) (name_words (at + 3) j) ++ texts)) e

none-texts : (W : List Word) (at left : ℕ) (texts : List Text) → left ≤ 0 → map (spelled W) (name_words at left) ++ texts ≡ texts
unfolding name_words
none-texts W at zero texts h = refl
none-texts W at (suc n) texts h = absurd (omega arith)

module _ (code values₀ : List ℕ) (first count : ℕ) (values : List ℕ) (at left : ℕ) (m : ParametersLeft code values₀ first count values at left) where
  module _ (b : ParametersKept code values₀ first count) (some : 0 < left) where
    k : KeepsName b.routine b.W b.s (cells_of code) (at + 1)
    k = (first-kept b.routine b.W b.s (cells_of code) at left some (m.kept b).keeps).0

    pub leave_room : (at + 1) * 8 + 8 ≤ length code
    leave_room = omega (arith, k.near, b.code-room)

    pub leave-table : store_bytes ≤ length values
    leave-table = omega (arith, b.table, m.long)

    pub leave-links : Links code (at + 1)
    leave-links = links b.routine b.W b.s code values values (at + 1) k

    leave-near : at + 3 < word_limit
    leave-near = omega (arith, (m.kept b).near, some)

    pub leave-adds : Fits w64 (at + 1)
    leave-adds = record { fits = omega (arith, leave-near) }

    pub next-adds : Fits w64 (at + 3)
    next-adds = record { fits = omega (arith, leave-near) }

  pub parameters-leave : ParametersKept code values₀ first count → 0 < left → (values' : List ℕ) → Left code values (at + 1) values' → (rest : ℕ) → rest ≡ left - 1
      → ParametersLeft code values₀ first count values' (at + 3) rest
  parameters-leave b₀ some values' l rest e = subst (λ (n : ℕ). ParametersLeft code values₀ first count values' (at + 3) n) (sym e) (record {
    long = left-long b₀.routine b₀.W b₀.s code values values' (at + 1) (k b₀ some) l (leave-table b₀ some) ∙ m.long;
    same = same-on m.same (left-same b₀.routine b₀.W b₀.s code values values' (at + 1) (k b₀ some) l (leave-table b₀ some));
    kept = λ b. record {
      near = omega (arith, (m.kept b).near, some);
      keeps = (first-kept b.routine b.W b.s (cells_of code) at left some (m.kept b).keeps).1;
      others = left-but b.routine b.W b.s code values values' (at + 1) (k b some) l (leave-table b some) (map (spelled b.W) (name_words (at + 3) (left - 1)) ++ b.texts)
          (subst (λ (t : List Text). MeansBut t b.routine b.W (outer_of b.W b.s) (cells_of values)) (first-texts b.W at left b.texts some) (m.kept b).others);
    };
  })

  pub left-values : length values ≡ length values₀
  left-values = m.long

  pub parameters-left : left ≤ 0 → LeavesParameters code values₀ values first count
  parameters-left none = record {
    others = λ b. subst (λ (t : List Text). MeansBut t b.routine b.W (outer_of b.W b.s) (cells_of values)) (none-texts b.W at left b.texts none) (m.kept b).others;
    same = m.same;
  }

-- ---- data
-- how many data a chain has from word i on
unfoldable pub chain_length : (C : List ℕ) → (fuel i : ℕ) → ℕ
chain_length C zero i = 0
chain_length C (suc f) i = elim (eqb (op_at C i) a_datum) [ true ↦ suc (chain_length C f (link_at C i)) | false ↦ 0 ]

module _ (C : List ℕ) (end : ℕ) (stops : op_at C end ≡ a_datum → ⊥) where
  length-is : (f w : ℕ) (r : List ℕ) → Chain C w r end → length r < f → chain_length C f (link_at C w) ≡ length r
  unfolding chain_length Leads last_of
  length-is zero w r c h = absurd (omega arith)
  length-is (suc f) w [] c h = let e = ne_eqb (op_at C (link_at C w)) a_datum (λ q. stops (ap (op_at C) (sym c.ends) ∙ q)) in rw (e, chain_length) refl
  length-is (suc f) w (d ∷ r) c h =
      let e = eq-eqb (op_at C (link_at C w)) a_datum (ap (op_at C) c.leads.0 ∙ c.leads.1) in
      let z : link_at C (link_at C w) ≡ link_at C d = ap (link_at C) c.leads.0 in
      rw (e, chain_length) (ap suc (ap (chain_length C f) z ∙ length-is f d r (record { leads = c.leads.2; ends = c.ends }) (omega (arith, h))))

pub record Datas {code values₀ : List ℕ} {head : ℕ} (b : DataKept code values₀ head) (values : List ℕ) (i : ℕ) : Type 0 where
  -- the word that leads to i, and what it leads to
  pub w : ℕ
  pub r : List ℕ
  pub at-is : i ≡ link_at (cells_of code) w
  pub chain : Chain (cells_of code) w r b.end
  pub rises : Rise w word_limit r
  pub keeps : KeepsAll b.routine b.W b.s (cells_of code) (map name_of r)
  pub others : MeansBut (map (spelled b.W) (map name_of r)) b.routine b.W (outer_of b.W b.s) (cells_of values)

pub record DataLeft (code values₀ : List ℕ) (head : ℕ) (values : List ℕ) (i : ℕ) : Type 0 where
  pub long : length values ≡ length values₀
  pub same : SameWords values₀ values
  pub kept : (b : DataKept code values₀ head) → Datas b values i

pub head-room : (code values : List ℕ) (head : ℕ) → DataKept code values head → head * 8 + 8 ≤ length code
head-room code values head b = omega (arith, b.before, b.code-room)

pub data-kept : (code values : List ℕ) (head i : ℕ) → i ≡ link_at (cells_of code) head → DataLeft code values head values i
data-kept code values head i e = record {
  long = refl;
  same = record { is = λ k h. refl };
  kept = λ b. record { w = head; r = b.ds; at-is = e; chain = b.chain; rises = b.rises; keeps = b.keeps; others = b.others };
}

-- what is left, by the word at hand
module _ {code values₀ : List ℕ} {head : ℕ} (b : DataKept code values₀ head) {values : List ℕ} {i : ℕ} (h : Datas b values i) where
  record Some : Type 0 where
    rest : List ℕ
    is : h.r ≡ i ∷ rest

  some_left : op_at (cells_of code) i ≡ a_datum → Some
  unfolding Leads last_of
  some_left q = by-list h.r refl
    where
      by-list : (l : List ℕ) → h.r ≡ l → Some
      by-list [] e = absurd (b.stops (ap (op_at (cells_of code)) (sym (h.at-is ∙ ends_at e)) ∙ q))
        where
          ends_at : h.r ≡ [] → link_at (cells_of code) h.w ≡ b.end
          ends_at z = subst (λ (l : List ℕ). link_at (cells_of code) (last_of h.w l) ≡ b.end) z h.chain.ends
      by-list (d ∷ l) e =
          let c : Leads (cells_of code) h.w (d ∷ l) = subst (Leads (cells_of code) h.w) e h.chain.leads in
          record { rest = l; is = e ∙ ap (λ (k : ℕ). k ∷ l) (sym (h.at-is ∙ c.0)) }

  none_left : (op_at (cells_of code) i ≡ a_datum → ⊥) → h.r ≡ []
  unfolding Leads
  none_left q = by-list h.r refl
    where
      by-list : (l : List ℕ) → h.r ≡ l → h.r ≡ []
      by-list [] e = e
      by-list (d ∷ l) e =
          let c : Leads (cells_of code) h.w (d ∷ l) = subst (Leads (cells_of code) h.w) e h.chain.leads in
          absurd (q (ap (op_at (cells_of code)) (h.at-is ∙ c.0) ∙ c.1))

  here-near : i < word_limit
  unfolding Leads last_of Rise
  here-near = by-list h.r refl
    where
      by-list : (l : List ℕ) → h.r ≡ l → i < word_limit
      by-list [] e = let z : link_at (cells_of code) h.w ≡ b.end = subst (λ (k : List ℕ). link_at (cells_of code) (last_of h.w k) ≡ b.end) e h.chain.ends in omega (arith, h.at-is, z, b.inside)
      by-list (d ∷ l) e =
          let c : Leads (cells_of code) h.w (d ∷ l) = subst (Leads (cells_of code) h.w) e h.chain.leads in
          let r : Rise h.w word_limit (d ∷ l) = subst (Rise h.w word_limit) e h.rises in
          let y = rise-last d word_limit l r.1 in
          omega (arith, h.at-is, c.0, y.0, y.1)

  -- the datum at hand
  module _ (s : Some) where
    all_are : Chain (cells_of code) h.w (i ∷ s.rest) b.end
    all_are = subst (λ (l : List ℕ). Chain (cells_of code) h.w l b.end) s.is h.chain

    rest-chain : Chain (cells_of code) i s.rest b.end
    unfolding Leads last_of
    rest-chain = record { leads = all_are.leads.2; ends = all_are.ends }

    rest-rises : Rise i word_limit s.rest
    unfolding Rise
    rest-rises = (subst (Rise h.w word_limit) s.is h.rises).1

    kept_here : KeepsName b.routine b.W b.s (cells_of code) (i + 2)
    unfolding KeepsAll name_of
    kept_here = (subst (λ (l : List ℕ). KeepsAll b.routine b.W b.s (cells_of code) (map name_of l)) s.is h.keeps).0

    kept-rest : KeepsAll b.routine b.W b.s (cells_of code) (map name_of s.rest)
    unfolding KeepsAll name_of
    kept-rest = (subst (λ (l : List ℕ). KeepsAll b.routine b.W b.s (cells_of code) (map name_of l)) s.is h.keeps).1

    others-here : MeansBut (spelled b.W (i + 2) ∷ map (spelled b.W) (map name_of s.rest)) b.routine b.W (outer_of b.W b.s) (cells_of values)
    unfolding name_of
    others-here = subst (λ (l : List ℕ). MeansBut (map (spelled b.W) (map name_of l)) b.routine b.W (outer_of b.W b.s) (cells_of values)) s.is h.others

    falls : chain_length (cells_of code) word_limit (link_at (cells_of code) i) < chain_length (cells_of code) word_limit i
    falls =
        let f = rise-few i word_limit s.rest rest-rises in
        let g = rise-few h.w word_limit (i ∷ s.rest) (subst (Rise h.w word_limit) s.is h.rises) in
        let a = length-is (cells_of code) b.end b.stops word_limit i s.rest rest-chain (omega (arith, f)) in
        let c = length-is (cells_of code) b.end b.stops word_limit h.w (i ∷ s.rest) all_are (omega (arith, g)) in
        let e : chain_length (cells_of code) word_limit i ≡ suc (length s.rest) = ap (chain_length (cells_of code) word_limit) h.at-is ∙ c in
        omega (arith, a, e)

module _ (code values₀ : List ℕ) (head : ℕ) (values : List ℕ) (i : ℕ) (m : DataLeft code values₀ head values i) where
  pub datum-room : DataKept code values₀ head → i * 8 + 8 ≤ length code
  datum-room b = omega (arith, here-near b (m.kept b), b.code-room)

  pub data-values : length values ≡ length values₀
  data-values = m.long

  module _ (o : ℕ) (o_is : o ≡ op_at (cells_of code) i) where
    module _ (b : DataKept code values₀ head) (yes : o ≡ a_datum) where
      some : Some b (m.kept b)
      some = some_left b (m.kept b) (sym o_is ∙ yes)

      name-near : i + 2 < word_limit
      name-near = (kept_here b (m.kept b) some).near

      pub name-adds : Fits w64 (i + 2)
      name-adds = record { fits = omega (arith, name-near) }

      pub name-room : (i + 2) * 8 + 8 ≤ length code
      name-room = omega (arith, name-near, b.code-room)

      pub name-table : store_bytes ≤ length values
      name-table = omega (arith, b.table, m.long)

      pub name-links : Links code (i + 2)
      name-links = links b.routine b.W b.s code values values (i + 2) (kept_here b (m.kept b) some)

      pub data-fall : (next : ℕ) → next ≡ link_at (cells_of code) i → chain_length (cells_of code) word_limit next < chain_length (cells_of code) word_limit i
      data-fall next e = subst (λ (k : ℕ). chain_length (cells_of code) word_limit k < chain_length (cells_of code) word_limit i) (sym e) (falls b (m.kept b) some)

    pub data-leave : DataKept code values₀ head → o ≡ a_datum → (values' : List ℕ) → Left code values (i + 2) values' → (next : ℕ) → next ≡ link_at (cells_of code) i
        → DataLeft code values₀ head values' next
    data-leave b₀ op values' l next e = record {
      long = left-long b₀.routine b₀.W b₀.s code values values' (i + 2) (kept_here b₀ (m.kept b₀) (some b₀ op)) l (name-table b₀ op) ∙ m.long;
      same = same-on m.same (left-same b₀.routine b₀.W b₀.s code values values' (i + 2) (kept_here b₀ (m.kept b₀) (some b₀ op)) l (name-table b₀ op));
      kept = λ b.
          let h = m.kept b in
          let s = some b op in
          record {
            w = i;
            r = s.rest;
            at-is = e;
            chain = rest-chain b h s;
            rises = rest-rises b h s;
            keeps = kept-rest b h s;
            others = left-but b.routine b.W b.s code values values' (i + 2) (kept_here b h s) l (name-table b op) (map (spelled b.W) (map name_of s.rest)) (others-here b h s);
          };
    }

    pub data-left : (o ≡ a_datum → ⊥) → LeavesData code values₀ values head
    unfolding is_among
    data-left done = record {
      means = λ b.
          let h = m.kept b in
          let e = none_left b h (λ q. done (o_is ∙ q)) in
          let k : MeansBut [] b.routine b.W (outer_of b.W b.s) (cells_of values) =
          subst (λ (l : List ℕ). MeansBut (map (spelled b.W) (map name_of l)) b.routine b.W (outer_of b.W b.s) (cells_of values)) e h.others in
          record { means = λ j n. k.means j n refl; guards = λ j n. k.guards j n refl };
      same = m.same;
    }

-- ---- both
module _ (code values : List ℕ) (first count head : ℕ) where
  abbrev pub leaving-parameters : Leaving code values first count head → ParametersKept code values first count
  leaving-parameters l = record {
    W = l.W;
    routine = l.routine;
    s = l.s;
    texts = map (spelled l.W) (map name_of l.ds);
    code-room = l.code-room;
    table = l.table;
    near = l.near;
    keeps = l.keeps-parameters;
    others = subst (λ (t : List Text). MeansBut t l.routine l.W (outer_of l.W l.s) (cells_of values)) (map-append (spelled l.W) (name_words first count) (map name_of l.ds)) l.others;
  }

  module _ (mid : List ℕ) (p : LeavesParameters code values mid first count) (long : length mid ≡ length values) where
    abbrev kept_of : Leaving code values first count head → DataKept code mid head
    kept_of l = record {
      W = l.W;
      routine = l.routine;
      s = l.s;
      ds = l.ds;
      end = l.end;
      code-room = l.code-room;
      table = omega (arith, l.table, long);
      before = l.before;
      rises = l.rises;
      chain = l.chain;
      inside = l.inside;
      stops = l.stops;
      keeps = l.keeps-data;
      others = p.others (leaving-parameters l);
    }

    pub leaving-data : Leaving code values first count head → DataKept code mid head
    leaving-data l = kept_of l

    kept-left : (values' : List ℕ) → LeavesData code mid values' head → (l : Leaving code values first count head) → Means l.routine l.W (outer_of l.W l.s) (cells_of values')
    kept-left values' d l = d.means (kept_of l)

pub routine-left : (scope outer : Scope) (code values mid : List ℕ) → LeavesParameters code values mid scope.first scope.names → length mid ≡ length values → (values' : List ℕ)
    → LeavesData code mid values' scope.head → answers.Leaves scope outer code values values' outer
routine-left scope outer code values mid p long values' d = record {
  means = λ l. kept-left code values scope.first scope.names scope.head mid p long values' d l;
  same = same-on p.same d.same;
  scope-is = refl;
}
