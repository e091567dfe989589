-- `survey::ask` meets its contract: the packet's own address says what it is, to the first stream, to the one that there is, or to the second. Assumes
-- nothing.
use Rattle.survey.proofs.Telling.{asked-first, asked-alone, asked-second}
use Rattle.survey.proofs.ask.Goals as goal
use Rattle.survey.proofs.ask.Goals.{then-verdict-ne-NO_INDEX-via-then-verdict-ne-NO_INDEX, then-verdict-ne-NO_INDEX-via-else-verdict-ne-NO_INDEX+then-setting}

pub returns-then-verdict-ne-NO_INDEX : goal.returns-then-verdict-ne-NO_INDEX
returns-then-verdict-ne-NO_INDEX c =
    let a = c.args in
    elim c.then-verdict-ne-NO_INDEX.branch [
      | then-verdict-ne-NO_INDEX-via-then-verdict-ne-NO_INDEX w ↦
          asked-first a.setting a.most a.packet.now c.address-address.ensures c.first-one.ensures c.judge-verdict.ensures w.if-verdict-ne-NO_INDEX.true
      | then-verdict-ne-NO_INDEX-via-else-verdict-ne-NO_INDEX+then-setting w ↦
          asked-alone a.setting a.most a.packet.now c.address-address.ensures c.first-one.ensures c.judge-verdict.ensures w.if-setting.true
    ]

pub returns : goal.returns
returns c =
    let a = c.args in
    asked-second a.setting a.most a.packet.now c.address-address.ensures c.first-one.ensures c.judge-verdict.ensures
    c.if-verdict-ne-NO_INDEX.false c.if-setting.false c.second-two.ensures c.judge.ensures
