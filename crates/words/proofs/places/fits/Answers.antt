-- `words::places::fits` meets its contract: letter by letter. Assumes nothing.
use borrow.Author.Tests.{ne_eqb}
use Rattle.words.specs.Places.{fits}
use Rattle.words.proofs.Placing.{fits-none, fits-stamp, fits-block, fits_byte, fits-kind}
use Rattle.words.proofs.places.fits.Goals as goal

pub returns-in-0 : goal.returns-in-0
returns-in-0 c = fits-none _ c.in-0.is

pub returns-in-115 : goal.returns-in-115
returns-in-115 c = fits-stamp _ c.in-115.is c.number_of.ensures

pub returns-in-98 : goal.returns-in-98
returns-in-98 c = fits-block _ c.in-98.is c.number_of-in-98.ensures

pub returns-in-110 : goal.returns-in-110
returns-in-110 c = fits_byte _ c.in-110.is c.number_of-in-110.ensures

pub returns-in-107 : goal.returns-in-107
returns-in-107 c = fits-kind _ c.in-107.is c.is_kind.ensures

pub returns-in_default : goal.returns-in_default
unfolding fits
returns-in_default c = let r = c.in_default.in_default-own.rest in simp (ne_eqb _ _ r.0.0.0.0.1, ne_eqb _ _ r.0.0.0.1, ne_eqb _ _ r.0.0.1, ne_eqb _ _ r.0.1, ne_eqb _ _ r.1)
