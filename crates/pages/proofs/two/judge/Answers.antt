-- `pages::two::judge` meets its contract: two verdicts, each of one stream alone. Assumes nothing.
use Rattle.pages.proofs.Beside.{judged-beside}
use Rattle.pages.proofs.two.judge.Goals as goal

pub returns : goal.returns
returns c =
    let a = c.args in
    let one = rw (c.first-one.ensures, c.page_of-mine.ensures) at c.judge-a.ensures in
    let two = rw (c.second_only-two.ensures, c.page_of-theirs.ensures) at c.judge-b.ensures in
    judged-beside a.setting a.address a.packet.now a.page a.first a.second one two c.shared.ensures
