-- `dvb_descriptor::put_five` meets its contract: the five bytes copied. Assumes nothing.
use Rattle.forms.specs.Form.{spelled}
use Rattle.dvb_descriptor.specs.Entries.{five}
use Rattle.dvb_descriptor.proofs.put_five.Goals as goal

pub returns : goal.returns
unfolding five spelled
returns c = c.copy.ensures
