-- What a call shows: the record's fields are small, so that their low words are the fields.
use mathlib.Core.Path.{◌≡◌, refl, sym, ap, ◌∙◌}
use mathlib.Core.List.{List, [], ◌∷◌, ◌++◌}
use mathlib.Core.Option.{none}
use Prim.Native.Nat.{ℕ, ◌/◌, ◌%◌, ◌≤◌, ◌<◌}
use native.Mathlib.Omega.{arith}
use lib.ListN.{length, get_or, drop}
use mir.Syntax.{w32}
use mir.Val.{Fits}
use borrow.Author.Tests.{le-ltb}
use Rattle.paper.specs.Answer.{record_size, Record, low_first, record_bytes, Lent, Answer, answer, LentBytes, BytesAnswer, lent_of, spread, pendant_call}
use Rattle.paper.specs.Undoing.{plainly}
use Rattle.store_cells.specs.Cells.{cell, cells_of, Got}
use Rattle.code.proofs.Options.{none-some}
use Rattle.demands.specs.Vocabulary.{Errno, before-any, latest, by-raise, named}
use Rattle.demands.specs.Demands.{StepsLent, plain, struck, Allowed, refused, ended, Demand1}
use Rattle.demands.proofs.Memory.{demand-1}
use Rattle.demands.proofs.Bytes.{whole_words}
use Rattle.call_pendant.specs.Calls.{lent, Calls}
use Rattle.call_screen.specs.Screen.{field_list, record_line, low_fields, PutLine, Lends, Shows}

-- ---- a field below 2^32 is its low word
low_word : (n : ℕ) → n < 4294967296 → cell (n % 256) (n / 256 % 256) (n / 256 / 256 % 256) (n / 256 / 256 / 256 % 256) ≡ n
low_word n h = omega arith

record Low (f : Record) : Type 0 where
  pub ending : f.ending < 4294967296
  pub refusal : f.refusal < 4294967296
  pub offset : f.offset < 4294967296
  pub steps : f.steps < 4294967296
  pub errno : f.errno < 4294967296
  pub output : f.output < 4294967296
  pub inputs : f.inputs < 4294967296
  pub words : f.words < 4294967296

low-fields : (f : Record) (past : List ℕ) → Low f → low_fields (record_bytes f ++ past) ≡ field_list f
unfolding record_bytes low_first cells_of
low-fields f past h = λ i.
    low_word f.ending h.ending i ∷ low_word f.refusal h.refusal i ∷ low_word f.offset h.offset i ∷ low_word f.steps h.steps i
    ∷ low_word f.errno h.errno i ∷ low_word f.output h.output i ∷ low_word f.inputs h.inputs i ∷ low_word f.words h.words i ∷ []

-- ---- by demand 1 the fields of an answer are so small
small-errno : (e : ℕ) → Errno e → e < 4294967296
small-errno e (before-any h) = omega arith
small-errno e (latest (by-raise l h)) = omega arith
small-errno e (latest (named l h)) = omega arith

-- of the run without K the steps are those allowed
plain-steps : (l : Lent) (f : Record) → l.asked.abort ≡ none → StepsLent l f → f.steps ≤ l.steps
plain-steps l f e (plain h s) = s
plain-steps l f e (struck h s) = none-some s.abort (sym e ∙ s.given)

allowed-low : (l : Lent) (f : Record) → l.asked.abort ≡ none → l.steps < 4294967296 → length l.text < 4294967296 → length l.inputs < 4294967296 → length l.output < 4294967296 → Allowed l f → Low f
allowed-low l f k s t i o (refused e p r) = record {
  ending = omega arith;
  refusal = omega (arith, r.to-19);
  offset = omega arith;
  steps = omega (arith, r.steps);
  errno = omega (arith, r.errno);
  output = omega (arith, r.output);
  inputs = omega (arith, r.inputs);
  words = omega (arith, r.words);
}
allowed-low l f k s t i o (ended p r) = record {
  ending = omega (arith, r.to-10);
  refusal = omega (arith, r.refusal);
  offset = omega arith;
  steps = omega (arith, plain-steps l f k r.steps);
  errno = small-errno f.errno r.errno;
  output = omega (arith, r.output);
  inputs = omega (arith, r.inputs);
  words = omega (arith, r.words);
}

written-inside : (l : Lent) (f : Record) → Allowed l f → f.output ≤ length l.output
written-inside l f (refused e p r) = omega (arith, r.output)
written-inside l f (ended p r) = r.output

-- ---- the call
module _ (text : List ℕ) (steps depth : ℕ) (inputs out code values fields line : List ℕ) (r₁ : ℕ) (out' code' values' fields' line' : List ℕ) (n count : ℕ)
    (fits : Fits w32 steps) (lends : Lends text inputs out line) (room : record_size ≤ length fields)
    (called : Calls (lent plainly text steps depth inputs out code values fields) r₁ out' code' values' fields')
    (put : PutLine line line' (low_fields fields') n) (got : Got fields' 10 count) where
  -- what is lent, but for the record
  abbrev l : LentBytes
  l = lent plainly text steps depth inputs out code values []

  abbrev a : Answer
  a = answer (lent_of l)

  is : record { returned = r₁; output = out'; code = code'; values = values'; fields = fields' } ≡ spread a (lent plainly text steps depth inputs out code values fields)
  unfolding pendant_call lent_of lent
  is = called.is ∙ rw (le-ltb (length fields) record_size room, pendant_call)

  low : Low a.fields
  unfolding Demand1 lent_of lent
  low = allowed-low (lent_of l) a.fields refl (omega (arith, fits.fits)) (omega (arith, lends.text-small)) (omega (arith, whole_words inputs, lends.inputs-small)) (omega (arith, lends.out-small)) (demand-1 (lent_of l)).0

  fields-is : fields' ≡ record_bytes a.fields ++ drop record_size fields
  unfolding spread lent
  fields-is = ap (λ (x : BytesAnswer). x.fields) is

  lows : low_fields fields' ≡ field_list a.fields
  lows = ap low_fields fields-is ∙ low-fields a.fields (drop record_size fields) low

  line-put : PutLine line line' (field_list a.fields) n
  line-put = rw lows at put

  count-is : count ≡ a.fields.output
  count-is = got ∙ ap (λ (x : List ℕ). get_or x 5 0) lows

  inside : count ≤ length out'
  unfolding spread Demand1 lent_of lent
  inside = omega (arith, count-is, ap (λ (x : BytesAnswer). length x.output) is, (demand-1 (lent_of l)).1.output-length, written-inside (lent_of l) a.fields (demand-1 (lent_of l)).0)

  pub show-law : Shows (lent plainly text steps depth inputs out code values []) line (record { output = count; line = n }) out' code' values' line'
  unfolding spread lent Demand1 lent_of record_line
  show-law = record {
    out-is = ap (λ (x : BytesAnswer). x.output) is;
    code_is = ap (λ (x : BytesAnswer). x.code) is;
    values-is = ap (λ (x : BytesAnswer). x.values) is;
    line-is = line-put.bytes;
    output-is = count-is;
    length-is = line-put.place;
    output-inside = inside;
    line-inside = omega (arith, line-put.near, line-put.size, lends.line-room);
  }
