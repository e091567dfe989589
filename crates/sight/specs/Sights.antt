-- What is seen of a capture besides its tables (SCOPE 13.9, 13.10, 27.8).
use Rattle.std.specs.Prelude.{Bool, true, false, List, ◌∷◌, map, ℕ, zero, suc, ◌+◌, ◌*◌, ◌/◌, ◌%◌, eqb, length, take, drop, replicate}
use Rattle.std.specs.declared.option.Option.{Option}
use Rattle.std.specs.declared.option.Option.TheVariants.{None, Some}
use Rattle.laws.specs.Pick.{pick}
use Rattle.octet.specs.Turning.{turned as turning_turned}
use Rattle.packet.specs.declared.Setting.{Setting}
use Rattle.packet.specs.declared.two.Streams.{Streams}
use Rattle.packet.specs.Two.{first_of, second_of}
use Rattle.packet.specs.Packet.{packet_length}
use Rattle.pes.specs.Header.{starts_right}
use Rattle.survey.specs.declared.Counts.{Counts}
use Rattle.survey.specs.Counting.{counted}
use Rattle.survey.specs.Either.{see_either}
use Rattle.survey.specs.Fitting.{first_in}
use Rattle.survey.specs.Pages.{no_page, code_of, noted}
use Rattle.told.specs.Fronts.{front_of}
use Rattle.sight.specs.declared.Sight.{Sight}

-- ---- to begin with

abbrev pub no_sight : Sight
no_sight =
    record {
      counts = record { packets = 0; ours = 0; unreadable = 0; came = false; most = 0 };
      any = false;
      pes = false;
      plain = None;
      turned = None;
    }

-- bytes came, and no packet 0 of our page (SCOPE 13.9)
abbrev pub is_lacking : Sight → Bool
is_lacking s = pick s.counts.came false s.any

-- our own page in one stream, as `code_of` has it
abbrev pub own_page : Setting → ℕ
own_page s = s.stream + 16 * s.page + 4096 * (s.magazine % 8)

-- that of the first and of the second stream in front, and places for ten others
abbrev pub start_pages : Streams → List ℕ
start_pages s = own_page (first_of s) ∷ own_page (second_of s) ∷ replicate 10 no_page

-- ---- a piece more

-- what the first bytes of all begin as
abbrev pub seen_from : Sight → List ℕ → Sight
seen_from s l =
    pick s.any s
    (record { counts = s.counts; any = true; pes = starts_right l; plain = s.plain; turned = s.turned })

-- so many packets from the front of l, counted one after the other
unfoldable pub counted_all : Streams → ℕ → Counts → List ℕ → Counts
counted_all s zero c l = c
counted_all s (suc n) c l = counted_all s n (counted c (see_either s (take packet_length l))) (drop packet_length l)

-- and the pages of those that are packets 0
unfoldable pub noted_all : ℕ → List ℕ → List ℕ → List ℕ
noted_all zero pages l = pages
noted_all (suc n) pages l = noted_all n (noted (code_of (take packet_length l)) pages) (drop packet_length l)

-- from which byte of 42 on packets fit, if they do
abbrev pub offset_of : Option ℕ → Option ℕ
offset_of (Some at) = Some (at % packet_length)
offset_of None = None

-- the first that was found stays
abbrev pub fit_from : Option ℕ → Option ℕ → Option ℕ
fit_from (Some known) place = Some known
fit_from None place = offset_of place

-- whether a piece of n bytes is looked at: once a packet 0 of our page has come, only where the counts are asked for
abbrev pub is_looked : Bool → Sight → ℕ → Bool
is_looked verbose s n = pick (eqb n 0) false (pick s.counts.came verbose true)

-- with the counts of its packets
abbrev pub with_counts : Streams → Sight → List ℕ → Sight
with_counts g s l =
    record {
      counts = counted_all g (length l / packet_length) s.counts l;
      any = s.any;
      pes = s.pes;
      plain = s.plain;
      turned = s.turned;
    }

-- with the places where packets fit, in the bytes and in the bytes turned
abbrev pub with_fits : Streams → Sight → ℕ → List ℕ → Sight
with_fits g s n piece =
    record {
      counts = s.counts;
      any = s.any;
      pes = s.pes;
      plain = fit_from s.plain (first_in g (front_of n piece) 0);
      turned = fit_from s.turned (first_in g (front_of n (map turning_turned piece)) 0);
    }

-- with what its first n bytes are, and how many of each kind
abbrev pub counted_sight : Streams → Sight → ℕ → List ℕ → Sight
counted_sight g s n piece = with_counts g (seen_from s (front_of n piece)) (front_of n piece)

-- what is seen behind a piece that is looked at, of n bytes: where packets fit only while no packet 0 of our page has come
abbrev pub seen_on : Streams → Sight → ℕ → List ℕ → Sight
seen_on g s n piece =
    let c = counted_sight g s n piece in
    pick c.counts.came c (with_fits g c n piece)

-- the piece then, which is turned to see that
abbrev pub left_of : Streams → Sight → ℕ → List ℕ → List ℕ
left_of g s n piece = pick (counted_sight g s n piece).counts.came piece (map turning_turned piece)

-- and the list of pages
abbrev pub noted_in : ℕ → List ℕ → List ℕ → List ℕ
noted_in n piece pages = noted_all (length (front_of n piece) / packet_length) pages (front_of n piece)

-- the same of any piece
abbrev pub looked_sight : Streams → Bool → Sight → ℕ → List ℕ → Sight
looked_sight g verbose s n piece = pick (is_looked verbose s n) (seen_on g s n piece) s

abbrev pub looked_at : Streams → Bool → Sight → ℕ → List ℕ → List ℕ
looked_at g verbose s n piece = pick (is_looked verbose s n) (left_of g s n piece) piece

abbrev pub noted_at : Bool → Sight → ℕ → List ℕ → List ℕ → List ℕ
noted_at verbose s n piece pages = pick (is_looked verbose s n) (noted_in n piece pages) pages
