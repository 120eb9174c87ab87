-- `formatter::fast_tokens::is_bare_row` meets its contract. Assumes nothing.
use mathlib.Core.Path.{◌≡◌, refl, ap, sym, ◌∙◌}
use Prim.Native.Nat.{ℕ, ◌+◌}
use native.Mathlib.Omega.{arith}
use borrow.Author.Tests.{eqb-true, eqb-false, not-true}
use Rattle.rows.specs.Kinds.{Leading, TokenRow, Trailing}
use Rattle.formatter.proofs.Place.{bare-run}
use Rattle.formatter.proofs.RunEnd.{other_run, none-run}
use Rattle.formatter.proofs.fast_tokens.is_bare_row.Goals as goal

-- a token's row is no leading one
token_first : {C : Type 0} {n : ℕ} → n ≡ TokenRow → n ≡ Leading → C
token_first e l = let y : ◌≡◌ {A = ℕ} 1 0 = sym e ∙ l in absurd (omega arith)

pub returns-then-bare : goal.returns-then-bare
returns-then-bare c = λ e.
    let w = c.requires.row_size_in_bounds.1 in
    let o = c.requires.no_trivia_if c.if-bare.true in
    record {
      leads = bare-run c.args.rows.now c.args.at Leading refl w o;
      trails = bare-run c.args.rows.now (c.args.at + 16) Trailing refl (omega arith) o;
    }

pub returns-then-rows-next-lt-ROW_BYTES : goal.returns-then-rows-next-lt-ROW_BYTES
returns-then-rows-next-lt-ROW_BYTES c = λ e.
    record {
      leads =
          other_run Leading c.args.rows.now c.args.at
          c.requires.row_size_in_bounds.0 (λ x. token_first (sym (ap (λ r. r.what) c.row_at.ensures) ∙ eqb-true _ _ (sym c.is_token.ensures ∙ c.if-not-is_token.false)) x);
      trails = none-run Trailing c.args.rows.now (c.args.at + 16) (let t = c.if-rows-next-lt-ROW_BYTES.true in let p = c.requires.row_size_in_bounds.0 in omega arith);
    }

pub returns : goal.returns
returns c = λ e.
    record {
      leads =
          other_run Leading c.args.rows.now c.args.at
          c.requires.row_size_in_bounds.0 (λ x. token_first (sym (ap (λ r. r.what) c.row_at.ensures) ∙ eqb-true _ _ (sym c.is_token.ensures ∙ c.if-not-is_token.false)) x);
      trails =
          other_run Trailing c.args.rows.now
          (c.args.at + 16) (let t = c.if-rows-next-lt-ROW_BYTES.false in let p = c.requires.row_size_in_bounds.0 in omega arith)
          (λ x. eqb-false _ _ (not-true _ e) (ap (λ r. r.what) c.row_at-2.ensures ∙ x));
    }
