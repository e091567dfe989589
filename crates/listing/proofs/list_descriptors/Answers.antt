-- `listing::list_descriptors` meets its contract: it is `list` without the head. Assumes nothing.

use Rattle.listing.proofs.list_descriptors.Goals as goal

pub returns : goal.returns
returns c =
    let it = c.list.ensures in
    record { answer = it.answer; output = it.output }
