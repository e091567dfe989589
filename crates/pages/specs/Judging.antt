-- What a packet does to the open page and to our last index, whether it drops the running block, whether it opens a page of ours, and whether
-- its bytes are read.
use Rattle.std.specs.Prelude.{Bool, true, false, not, ℕ, ◌+◌, ◌%◌, eqb, leb, ltb}
use Rattle.laws.specs.Pick.{pick, both, either}
use Rattle.pages.specs.declared.headers.Page.{Page}
use Rattle.pages.specs.declared.headers.Page.TheVariants.{Shut, Open}
use Rattle.pages.specs.declared.headers.Verdict.{Verdict}
use Rattle.pages.specs.Headers.{Seen, junk, other, foreign, ours, packet_y}

-- our page is open, and not all of its packets have come (SCOPE 8.5)
abbrev pub incomplete : Page → Bool
incomplete Shut = false
incomplete (Open n last) = ltb last n

-- a packet 0 of ours drops the running block: our page isn't complete (SCOPE 8.5), n is over 25 (SCOPE 8.7), or the index isn't our last
-- and one, modulo 16 (SCOPE 8.8)
abbrev pub breaks : Page → ℕ → ℕ → ℕ → Bool
breaks page last index n = either (incomplete page) (either (ltb 25 n) (not (eqb index ((last + 1) % 16))))

-- Y isn't the one after last, or is above n (SCOPE 8.11)
abbrev pub wrong_y : ℕ → ℕ → ℕ → Bool
wrong_y n last y = not (both (eqb y (last + 1)) (leb y n))

-- packet Y, 1 to 25. With our page shut nothing changes (SCOPE 8.10); with it open a wrong Y drops, and up to n it becomes last and the
-- packet is read (SCOPE 8.12, 8.13)
abbrev pub verdict_of_y : Page → ℕ → ℕ → Verdict
verdict_of_y Shut index y = record { page = Shut; index = index; drops = false; opens = false; reads = false }
verdict_of_y (Open n last) index y =
    record { page = pick (leb y n) (Open n y) (Open n last); index = index; drops = wrong_y n last y; opens = false; reads = leb y n }

-- any packet, case by case: SCOPE 8.2 and 8.6 (junk), 8.3 and 8.4 (other), 8.5 and 8.9 (foreign), 8.5 to 8.9 (ours), 8.10 to 8.13 (packet_y).
-- Only our own packet 0 opens a page of ours, and only with n up to 25 (SCOPE 8.9)
abbrev pub verdict_of : Page → ℕ → Seen → Verdict
verdict_of page index junk = record { page = Shut; index = index; drops = true; opens = false; reads = false }
verdict_of page index other = record { page = page; index = index; drops = false; opens = false; reads = false }
verdict_of page index foreign = record { page = Shut; index = index; drops = incomplete page; opens = false; reads = false }
verdict_of page index (ours i n) =
    record { page = pick (leb n 25) (Open n 0) Shut; index = i; drops = breaks page index i n; opens = leb n 25; reads = false }
verdict_of page index (packet_y y p l) = verdict_of_y page index y
