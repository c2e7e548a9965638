-- What is handed to the host.
use mathlib.Core.Path.{◌≡◌, ap₂, ◌∙◌}
use mathlib.Core.List.{List}
use Prim.Native.Nat.{ℕ, ◌<◌, ◌≤◌}
use lib.ListN.{length}
use borrow.Author.Tests.{lt-ltb, le-ltb}
use Rattle.store_cells.specs.Cells.{bytes_of}
use mathlib.Core.Option.{Option}
use Rattle.paper.specs.Words.{Refusal, listing}
use Rattle.call_listing.specs.declared.Summary.{Summary}
use Rattle.call_listing.specs.Listing.{three_bytes, three_put, refusal_number, refusal_offset, summary_put, Listed·all, Exported}
use Rattle.call_listing.proofs.Output.{listing-is}

module _ (text out answer : List ℕ) where
  pub exported-short : length answer < 12 → Exported text out answer 0 out answer
  exported-short h = let t = lt-ltb (length answer) 12 h in record { result = rw t; entries = rw t; summary = rw t }

  pub exported-all : (out' answer' : List ℕ) (s : Summary) → 12 ≤ length answer → Listed·all text out out' s → answer' ≡ summary_put answer s
      → Exported text out answer 1 out' answer'
  unfolding three_bytes bytes_of
  exported-all out' answer' s h l e =
      let t = le-ltb (length answer) 12 h in
      record {
        result = rw t;
        entries = rw t (l.entries ∙ listing-is out (listing text).0);
        summary = rw t (e ∙ ap₂ (λ (n : ℕ) (f : Option Refusal). three_put answer 0 n (refusal_number f) (refusal_offset f)) l.count l.refusal);
      }
