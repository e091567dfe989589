-- `octet::quick::eight_marks` meets its contract: each eight is what antt computes for its number. Assumes nothing.
use mathlib.Core.Path.{refl}
use Rattle.octet.specs.Bits.{number, differing}
use Rattle.octet.specs.Image.{image, with_parity}
use Rattle.octet.specs.Decoding.{nib, nibble_from}
use Rattle.octet.specs.Hearing.{harm, mark}
use Rattle.octet.specs.Packing.{packed}
use Rattle.octet.proofs.Eights.{eight_at, past, last}
use Rattle.octet.proofs.quick.eight_marks.Goals as goal

pub returns-in-0 : goal.returns-in-0
unfolding packed mark harm nib nibble_from image with_parity differing number
returns-in-0 c = eight_at mark c.args.i 0 _ c.in-0.is refl

pub returns-in-1 : goal.returns-in-1
unfolding packed mark harm nib nibble_from image with_parity differing number
returns-in-1 c = eight_at mark c.args.i 1 _ c.in-1.is refl

pub returns-in-2 : goal.returns-in-2
unfolding packed mark harm nib nibble_from image with_parity differing number
returns-in-2 c = eight_at mark c.args.i 2 _ c.in-2.is refl

pub returns-in-3 : goal.returns-in-3
unfolding packed mark harm nib nibble_from image with_parity differing number
returns-in-3 c = eight_at mark c.args.i 3 _ c.in-3.is refl

pub returns-in-4 : goal.returns-in-4
unfolding packed mark harm nib nibble_from image with_parity differing number
returns-in-4 c = eight_at mark c.args.i 4 _ c.in-4.is refl

pub returns-in-5 : goal.returns-in-5
unfolding packed mark harm nib nibble_from image with_parity differing number
returns-in-5 c = eight_at mark c.args.i 5 _ c.in-5.is refl

pub returns-in-6 : goal.returns-in-6
unfolding packed mark harm nib nibble_from image with_parity differing number
returns-in-6 c = eight_at mark c.args.i 6 _ c.in-6.is refl

pub returns-in-7 : goal.returns-in-7
unfolding packed mark harm nib nibble_from image with_parity differing number
returns-in-7 c = eight_at mark c.args.i 7 _ c.in-7.is refl

pub returns-in-8 : goal.returns-in-8
unfolding packed mark harm nib nibble_from image with_parity differing number
returns-in-8 c = eight_at mark c.args.i 8 _ c.in-8.is refl

pub returns-in-9 : goal.returns-in-9
unfolding packed mark harm nib nibble_from image with_parity differing number
returns-in-9 c = eight_at mark c.args.i 9 _ c.in-9.is refl

pub returns-in-10 : goal.returns-in-10
unfolding packed mark harm nib nibble_from image with_parity differing number
returns-in-10 c = eight_at mark c.args.i 10 _ c.in-10.is refl

pub returns-in-11 : goal.returns-in-11
unfolding packed mark harm nib nibble_from image with_parity differing number
returns-in-11 c = eight_at mark c.args.i 11 _ c.in-11.is refl

pub returns-in-12 : goal.returns-in-12
unfolding packed mark harm nib nibble_from image with_parity differing number
returns-in-12 c = eight_at mark c.args.i 12 _ c.in-12.is refl

pub returns-in-13 : goal.returns-in-13
unfolding packed mark harm nib nibble_from image with_parity differing number
returns-in-13 c = eight_at mark c.args.i 13 _ c.in-13.is refl

pub returns-in-14 : goal.returns-in-14
unfolding packed mark harm nib nibble_from image with_parity differing number
returns-in-14 c = eight_at mark c.args.i 14 _ c.in-14.is refl

pub returns-in-15 : goal.returns-in-15
unfolding packed mark harm nib nibble_from image with_parity differing number
returns-in-15 c = eight_at mark c.args.i 15 _ c.in-15.is refl

pub returns-in-16 : goal.returns-in-16
unfolding packed mark harm nib nibble_from image with_parity differing number
returns-in-16 c = eight_at mark c.args.i 16 _ c.in-16.is refl

pub returns-in-17 : goal.returns-in-17
unfolding packed mark harm nib nibble_from image with_parity differing number
returns-in-17 c = eight_at mark c.args.i 17 _ c.in-17.is refl

pub returns-in-18 : goal.returns-in-18
unfolding packed mark harm nib nibble_from image with_parity differing number
returns-in-18 c = eight_at mark c.args.i 18 _ c.in-18.is refl

pub returns-in-19 : goal.returns-in-19
unfolding packed mark harm nib nibble_from image with_parity differing number
returns-in-19 c = eight_at mark c.args.i 19 _ c.in-19.is refl

pub returns-in-20 : goal.returns-in-20
unfolding packed mark harm nib nibble_from image with_parity differing number
returns-in-20 c = eight_at mark c.args.i 20 _ c.in-20.is refl

pub returns-in-21 : goal.returns-in-21
unfolding packed mark harm nib nibble_from image with_parity differing number
returns-in-21 c = eight_at mark c.args.i 21 _ c.in-21.is refl

pub returns-in-22 : goal.returns-in-22
unfolding packed mark harm nib nibble_from image with_parity differing number
returns-in-22 c = eight_at mark c.args.i 22 _ c.in-22.is refl

pub returns-in-23 : goal.returns-in-23
unfolding packed mark harm nib nibble_from image with_parity differing number
returns-in-23 c = eight_at mark c.args.i 23 _ c.in-23.is refl

pub returns-in-24 : goal.returns-in-24
unfolding packed mark harm nib nibble_from image with_parity differing number
returns-in-24 c = eight_at mark c.args.i 24 _ c.in-24.is refl

pub returns-in-25 : goal.returns-in-25
unfolding packed mark harm nib nibble_from image with_parity differing number
returns-in-25 c = eight_at mark c.args.i 25 _ c.in-25.is refl

pub returns-in-26 : goal.returns-in-26
unfolding packed mark harm nib nibble_from image with_parity differing number
returns-in-26 c = eight_at mark c.args.i 26 _ c.in-26.is refl

pub returns-in-27 : goal.returns-in-27
unfolding packed mark harm nib nibble_from image with_parity differing number
returns-in-27 c = eight_at mark c.args.i 27 _ c.in-27.is refl

pub returns-in-28 : goal.returns-in-28
unfolding packed mark harm nib nibble_from image with_parity differing number
returns-in-28 c = eight_at mark c.args.i 28 _ c.in-28.is refl

pub returns-in-29 : goal.returns-in-29
unfolding packed mark harm nib nibble_from image with_parity differing number
returns-in-29 c = eight_at mark c.args.i 29 _ c.in-29.is refl

pub returns-in-30 : goal.returns-in-30
unfolding packed mark harm nib nibble_from image with_parity differing number
returns-in-30 c = eight_at mark c.args.i 30 _ c.in-30.is refl

pub returns-in_default : goal.returns-in_default
unfolding packed mark harm nib nibble_from image with_parity differing number
returns-in_default c = eight_at mark c.args.i 31 _ (last _ (past _ 31 c.in_default.in_default-own.rest) c.requires) refl
