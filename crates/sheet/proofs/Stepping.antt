-- A line from its head, its text and its row. Assumes nothing.
use mathlib.Core.Bool.{Bool, true, cond}
use mathlib.Core.List.{List}
use mathlib.Core.Path.{◌≡◌, sym, ◌∙◌}
use Prim.Native.Nat.{ℕ, ◌+◌, ◌≤◌}
use native.Mathlib.Omega.{arith}
use lib.ListN.{length}
use borrow.Author.Tests.{le-leb}
use Rattle.sheet.specs.Line.{Line, row, line_of}
use Rattle.sheet.specs.Row.{row_fits, with_row}
use Rattle.sheet.specs.Answer.{fits}
use Rattle.sheet.specs.Steps.{line_at, Headed, HeadAt, Texted, TextAt, Stored}
use Rattle.std.specs.Prelude.{Option, None, Some, Result, Ok}
use Rattle.std.specs.Option.{ok_or}
use Rattle.rows.specs.KindNumber.{what_number, kind_number}
use Rattle.sheet.specs.declared.SheetError.{SheetError}
use Rattle.sheet.specs.declared.line.Head.{Head}
use Rattle.sheet.specs.declared.line.TextEnd.{TextEnd}
use Rattle.sink.proofs.Sink.{wrote_sets, within-fits}

-- a head, and a text, that `ok_or` hands on
pub headed : {said : Line} {sheet : List ℕ} {at : ℕ} (e : SheetError) {h : Head} {r : Result Head SheetError} (o : Option Head) → r ≡ ok_or o e → r ≡ Ok h → HeadAt said sheet at o → Headed said sheet at (what_number h.what) (kind_number h.kind) h.from
headed e {h = h} (Some k) p q η = let same : k ≡ h = cc in rw same at η
headed e None p q η = absurd cc

pub texted : {sheet : List ℕ} {from : ℕ} {text : List ℕ} {len : ℕ} (e : SheetError) {t : TextEnd} {r : Result TextEnd SheetError} {text' : List ℕ} (o : Option TextEnd) → r ≡ ok_or o e → r ≡ Ok t → TextAt sheet from text len o text' → Texted sheet from text len t.next t.end text'
texted e {t = t} (Some k) p q τ = let same : k ≡ t = cc in rw same at τ
texted e None p q τ = absurd cc

module _ {sheet : List ℕ} {at : ℕ} (rows : List ℕ) (n : ℕ) {text : List ℕ} {len what kind from next end : ℕ} {text' : List ℕ} (η : Headed (line_of (line_at sheet at)) sheet at what kind from) (τ : Texted sheet from text len next end text') where
  said_row : line_of (line_at sheet at) ≡ row what kind τ.bs
  said_row = η.says ∙ rw τ.says

  module _ (h : end ≤ length text) {b : Bool} (f : b ≡ row_fits (length rows) n end) where
    room : len + length τ.bs ≤ length text
    room = within-fits τ.wrote h

    ends_at : end ≡ len + length τ.bs
    ends_at = (τ.wrote.fits room).far

    fits_so : fits (length rows) (length text) n (len + length τ.bs) ≡ b
    fits_so = rw (le-leb (len + length τ.bs) (length text) room, ← ends_at) (sym f)

    pub stored : {rows' : List ℕ} → b ≡ true → rows' ≡ cond b (with_row rows n what kind len end) rows → Stored sheet at rows n text len next end rows' text'
    stored e p = record {
      what = what;
      kind = kind;
      bs = τ.bs;
      says = said_row;
      fit = fits_so ∙ e;
      end_is = ends_at;
      rows_are = p ∙ rw e;
      text_is = wrote_sets τ.wrote room;
      rest = η.rest ∙ τ.rest;
      after = omega (arith, η.after, τ.after);
      within = τ.within;
    }

pub ruleset line_steps = (headed, texted, stored)
