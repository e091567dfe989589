-- `words::name` meets its contract: its test. Assumes nothing.
use Rattle.words.proofs.Hearing.{no-fit, a-fit}
use Rattle.words.proofs.name.Goals as goal

pub returns-then-not-fits : goal.returns-then-not-fits
returns-then-not-fits c = no-fit _ c.args.said _ c.args.stage c.places-places.ensures c.letter_at.ensures c.fits.ensures c.if-not-fits.true c.bad.ensures

pub returns : goal.returns
returns c = a-fit _ c.args.said _ c.args.stage c.places-places.ensures c.letter_at.ensures c.fits.ensures c.if-not-fits.false c.after-spot.ensures
