use Rattle.edf_pace.proofs.notes.OnlyInOneFacts.{all_found}
use Rattle.edf_pace.proofs.notes.only_in_one.only_in_one.Goals as goal

pub returns : goal.returns
returns c =
    let found = c.in_ok-found in
    all_found c.args.kept.now c.args.exported.now found.found (record { missing = c.push_rest.new.places; extra = c.push_rest-2.new.places }) found.i found.j
    found.ensures.over found.ensures.value c.in_ok-push_rest.ensures c.in_ok-push_rest-2.ensures
