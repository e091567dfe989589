-- What judging a PES packet makes of the call: a refusal gives the packet that stands for a loss, and else the packets go out, 42 bytes
-- for each 44 of records. Assumes nothing.
use mathlib.Core.Path.{◌≡◌, ◌∙◌, refl, sym, ap}
use mathlib.Core.Bool.{Bool, true, false}
use mathlib.Core.Logic.{⊎_elim}
use mathlib.Core.List.{List, [], ◌∷◌, ◌++◌, flat_map}
use Prim.Native.Nat.{ℕ, suc, ◌+◌, ◌*◌, ◌/◌, ◌≤◌, ◌<◌}
use native.Mathlib.Omega.{arith}
use lib.ListN.{length, take, drop, length-append, length-map, length-take, length-drop}
use lib.Seq.{sets, take-length}
use borrow.Author.Tests.{le-leb, lt-leb}
use Rattle.std.specs.declared.result.Result.TheVariants.{Ok, Err}
use Rattle.laws.specs.Pick.{pick}
use Rattle.laws.proofs.Lists.{sets-front}
use Rattle.answer.specs.declared.Refusal.{Refusal}
use Rattle.answer.specs.Rules.{Rule, judged, Every, First}
use Rattle.answer.specs.Values.{refusal, refused}
use Rattle.answer.proofs.Judging.{passes, refuses, decided}
use Rattle.answer.proofs.Lent.{front-holds, back-holds}
use Rattle.answer.proofs.Steps.{done_every, done-value}
use Rattle.pes.specs.Texts.{with_text}
use Rattle.pes.proofs.Runs.{text-fits}
use Rattle.units.specs.Units.{byte_at, stuffing_id, rules_at}
use Rattle.units.proofs.Meets.{text_unit}
use Rattle.pes.specs.Header.{header_rules}
use Rattle.pes.specs.Reading.{record_at, given_at, places, units_rules, read_rules, records_of}
use Rattle.pes.proofs.Walk.{record_length_lem}
use Rattle.stripped.specs.Loss.{unreadable}
use Rattle.stripped.specs.Stripped.{packet_at, packets_of, goes_out, values_of, answer_of, packets_after}
use Rattle.stripped.specs.declared.Stripped.{Stripped as Stripped-as-Stripped}
use Rattle.stripped.specs.declared.Stripped.TheVariants.{Packets, Lost}
use Rattle.stripped.specs.declared.Stripped.TheVariants.{Refused as Stripped-as-Refused}

-- ---- one text unit

pub packet_length_lem : (pes : List ℕ) (at : ℕ) → at + 46 ≤ length pes → length (packet_at pes at) ≡ 42
unfolding packet_at record_at
packet_length_lem pes at h = simp (length-map, length-take, length-drop) (omega arith)

-- its packet is its text, turned
pub packet-stored :
    (pes : List ℕ) (at : ℕ) (out : List ℕ) (to : ℕ) → at + 46 ≤ length pes → to + 42 ≤ length out
    → with_text pes (at + 4) out to ≡ sets out to (packet_at pes at)
unfolding packet_at record_at
packet-stored pes at out to h k = text-fits pes (at + 4) out to (omega arith) k

-- ---- all of them: as many packets as records

abbrev packet_in : List ℕ → ℕ → List ℕ
packet_in pes at = pick (stuffing_id (byte_at pes at)) [] (packet_at pes at)

record Counted (records packets : List ℕ) : Type 0 where
  units : ℕ
  in_records : length records ≡ 44 * units
  in_packets : length packets ≡ 42 * units

counted : (pes ps : List ℕ) → Every (flat_map (rules_at pes) ps) → Counted (flat_map (given_at pes) ps) (flat_map (packet_in pes) ps)
unfolding flat_map
counted pes [] e = record { units = 0; in_records = refl; in_packets = refl }
counted pes (at ∷ ps) e =
    go (stuffing_id (byte_at pes at)) refl (counted pes ps (back-holds (rules_at pes at) (flat_map (rules_at pes) ps) e))
  where
    go :
        (s : Bool) → stuffing_id (byte_at pes at) ≡ s → Counted (flat_map (given_at pes) ps) (flat_map (packet_in pes) ps)
        → Counted (pick s [] (record_at pes at) ++ flat_map (given_at pes) ps) (pick s [] (packet_at pes at) ++ flat_map (packet_in pes) ps)
    go true k c = c
    go false k c =
        let t = text_unit pes at k (front-holds (rules_at pes at) (flat_map (rules_at pes) ps) e) in
        let r = record_length_lem pes at t.ends in
        let p = packet_length_lem pes at t.ends in
        record {
          units = suc c.units;
          in_records = length-append (record_at pes at) (flat_map (given_at pes) ps) ∙ omega (arith, r, c.in_records);
          in_packets = length-append (packet_at pes at) (flat_map (packet_in pes) ps) ∙ omega (arith, p, c.in_packets);
        }

-- ---- the call

module _ (pes packets : List ℕ) where
  abbrev judges : Stripped-as-Stripped
  judges = judged (λ n o. Lost (refusal n o)) (read_rules pes) (Packets (length (packets_of pes)))

  -- reading refuses
  pub record Refuses (r : Refusal) : Type 0 where
    pub blank : goes_out pes ≡ unreadable
    pub is_lost : judges ≡ Lost r

  pub reading-refuses : (r : Refusal) → judged refused (read_rules pes) (Ok (length (records_of pes))) ≡ Err r → Refuses r
  reading-refuses r e =
      ⊎_elim
      (λ (every : Every (read_rules pes)).
      let d = passes refused (Ok (length (records_of pes))) every in
      let z : ◌≡◌ {A = ℕ} 0 1 = cc in
      absurd (omega arith))
      (λ (w : (q : Rule) × First q (read_rules pes)).
      let f = refuses refused (Ok (length (records_of pes))) w.1 in
      let s : refusal w.0.number w.0.offset ≡ r = cc in
      record { blank = refuses (λ n o. unreadable) (packets_of pes) w.1; is_lost = refuses (λ n o. Lost (refusal n o)) _ w.1 ∙ ap Lost s })
      (decided (read_rules pes))

  -- reading takes it, with n bytes of records
  pub record Takes (n : ℕ) : Type 0 where
    pub rules : Every (units_rules pes)
    pub whole : goes_out pes ≡ packets_of pes
    pub need : n / 44 * 42 ≡ length (packets_of pes)
    pub is_whole : judges ≡ Packets (length (packets_of pes))

  pub reading-takes : (n : ℕ) → judged refused (read_rules pes) (Ok (length (records_of pes))) ≡ Ok n → Takes n
  unfolding read_rules units_rules records_of packets_of
  reading-takes n e =
      let every = done_every (read_rules pes) _ n e in
      let units = back-holds (header_rules pes) (units_rules pes) every in
      let c = counted pes (places pes) units in
      let v = done-value (read_rules pes) (length (records_of pes)) n e in
      record {
        rules = units;
        whole = passes (λ n o. unreadable) (packets_of pes) every;
        need = omega (arith, v, c.in_records, c.in_packets);
        is_whole = passes (λ n o. Lost (refusal n o)) _ every;
      }

  -- there is room for what goes out, or there isn't
  pub goes : (a : Stripped-as-Stripped) → length (goes_out pes) ≤ length packets → judges ≡ a → a ≡ answer_of pes packets
  unfolding answer_of
  goes a h e = sym (rw (le-leb (length (goes_out pes)) (length packets) h) e)

  pub short : {no : ℕ} → no ≡ 1 → length packets < length (goes_out pes) → Stripped-as-Refused (refusal no 0) ≡ answer_of pes packets
  unfolding answer_of
  short e h = rw (e, lt-leb (length (goes_out pes)) (length packets) h)

  -- the output after an answer
  pub after :
      (a : Stripped-as-Stripped) → a ≡ answer_of pes packets
      → take (values_of a).bytes (goes_out pes) ++ drop (values_of a).bytes packets ≡ packets_after pes packets
  after a e = ap (λ (x : Stripped-as-Stripped). take (values_of x).bytes (goes_out pes) ++ drop (values_of x).bytes packets) e

  -- what goes out stands at the front
  pub stands :
      (l : List ℕ) (n : ℕ) → goes_out pes ≡ l → n ≡ length l → n ≤ length packets
      → sets packets 0 l ≡ take n (goes_out pes) ++ drop n packets
  stands l n e k h =
      rw (e, k) (sets-front packets l (omega arith) ∙ sym (ap (λ (m : List ℕ). m ++ drop (length l) packets) (take-length l)))
