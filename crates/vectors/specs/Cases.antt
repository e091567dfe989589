-- A list of cases, as the unread bytes of the lent space hold it: op (1 byte), room (4 bytes, low byte first), length (4 bytes,
-- low byte first), then so many bytes, the payload.
use Rattle.std.specs.Prelude.{◌≡◌, Bool, List, [], ℕ, ◌+◌, ◌*◌, ◌-◌, ◌≤◌, min, leb, length, get_or, take, drop}
use Rattle.laws.specs.Pick.{pick, both}
use Rattle.vectors.specs.declared.cases.Input.{Input}
use Rattle.vectors.specs.declared.cases.Case.{Case}
use Rattle.std.specs.declared.result.Result.{Result}
use Rattle.std.specs.declared.result.Result.TheVariants.{Ok, Err}

-- the most bytes of a payload, and of a lent output
abbrev pub most : ℕ
most = 65536

-- op, room and length
abbrev pub head : ℕ
head = 9

-- the unread bytes are a part of the space s
pub record Within (i : Input) (s : List ℕ) : Type 0 where
  pub ordered : i.from ≤ i.to
  pub inside : i.to ≤ length s

-- how many bytes are unread
abbrev pub unread : Input → ℕ
unread i = i.to - i.from

-- the number in the four bytes of s from a on, low byte first; one over 65,536 is taken as 65,536
abbrev pub capped : List ℕ → ℕ → ℕ
capped s a = min (get_or s a 0 + 256 * (get_or s (a + 1) 0 + 256 * (get_or s (a + 2) 0 + 256 * get_or s (a + 3) 0))) most

-- where the payload of the case at a ends
abbrev pub end_of : List ℕ → ℕ → ℕ
end_of s a = a + head + capped s (a + 5)

-- the case that the unread bytes begin with, where it is whole
abbrev pub case_in : List ℕ → Input → Case
case_in s i =
    record {
      op = get_or s i.from 0;
      room = capped s (i.from + 1);
      from = i.from + head;
      to = end_of s i.from;
      rest = record { from = end_of s i.from; to = i.to; ended = i.ended };
    }

-- the unread bytes have room for a head, lie in s and begin with a whole case
abbrev pub whole : List ℕ → Input → Bool
whole s i =
    both (leb (i.from + head) i.to) (both (leb i.to (length s)) (leb (end_of s i.from) i.to))

-- that case, or how many bytes are left over where there is none
unfoldable pub next_in : List ℕ → Input → Result Case ℕ
next_in s i = pick (whole s i) (Ok (case_in s i)) (Err (unread i))

-- what a turn finds: the next case of unread bytes that lie in the space s
pub record Turned (s : List ℕ) (r : Result Case ℕ) : Type 0 where
  pub read : Input
  pub inside : Within read s
  pub found : r ≡ next_in s read

-- the bytes of s from a up to, not including, e; none where that is no part of s
unfoldable pub part : List ℕ → ℕ → ℕ → List ℕ
part s a e = pick (both (leb a e) (leb e (length s))) (take (e - a) (drop a s)) []
