use Rattle.std.proofs.lemmas.Result.{err_from_is_err_and}
use Rattle.edf_header.proofs.fixed_part.FixedFacts.{missing_found, start_found, extent_found, fixed_passed}
use Rattle.edf_header.proofs.fixed_part.fixed.judge_fixed.Goals as goal

pub returns-in-Some : goal.returns-in-Some
returns-in-Some c = missing_found c.args.front.now _ c.in-Some.ensures

pub returns-in_err-start : goal.returns-in_err-start
returns-in_err-start c =
    let p = err_from_is_err_and c.from_residual.result c.from_residual.ensures.1 in
    rw (p.1, p.2) (start_found c.args.front.now _ c.in_default.ensures.0 c.in_err-start.ensures)

pub returns-in_err-extent : goal.returns-in_err-extent
returns-in_err-extent c =
    let p = err_from_is_err_and c.from_residual-in_err-extent.result c.from_residual-in_err-extent.ensures.1 in
    rw (p.1, p.2) (extent_found c.args.front.now _ c.in_default.ensures.0 c.in_ok-start.ensures.0 c.in_err-extent.ensures)

pub returns : goal.returns
returns c = record {
  passed = fixed_passed c.args.front.now c.in_default.ensures.0 c.in_ok-start.ensures.0 c.in_ok-extent.ensures.0;
  whole = c.in_default.ensures.1;
  starts = c.in_ok-start.ensures.1;
  extends = c.in_ok-extent.ensures.1;
}
