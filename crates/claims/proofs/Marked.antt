-- The marked cases A to K of SCOPE 14.1, from the definitions, as one list under one claim. Assumes nothing.
use mathlib.Core.Path.{◌≡◌, refl, subst, sym}
use Rattle.std.specs.declared.result.Result.TheVariants.{Ok}
use Rattle.answer.specs.Rules.{judged}
use Rattle.answer.specs.Values.{refused}
use Rattle.octet.specs.Bits.{number}
use Rattle.octet.specs.Image.{image, with_parity}
use Rattle.octet.proofs.Cases.{CasesAtoE, cases_a_to_e, TheImages, the_images}
use Rattle.writer.proofs.Cases.{CaseF, case_f, CaseG, record_g, case_g}
use Rattle.pes_writer.proofs.Cases.{CaseJ, case_j, CaseK, case_k}
use Rattle.fields.specs.Fields.{alike, width, laid, parts}
use Rattle.forms.specs.Tables.{per, loops, fields, bits, fill, size}
use Rattle.blocks.specs.Sums.{total, checksum}
use Rattle.kinds.specs.Block.{nibbles, checksum_of, block_with}
use Rattle.forms.specs.Block.{record_of}
use Rattle.forms.specs.Form.{form}
use Rattle.forms.specs.Writing.{write_rules}
use Rattle.table.proofs.Cases.{G, H, I, case_G, case_H, case_I}

-- G's record, as block writing makes it, is the one whose packets case G shows
record_g_lem : record_of 1 G ≡ record_g
unfolding block_with laid parts alike width fields loops per nibbles checksum_of checksum total image with_parity number
record_g_lem = refl

pub record Marked : Type 0 where
  -- A to D: bytes decoded or refused; E: a byte turned
  pub a_to_e : CasesAtoE
  pub images : TheImages
  -- F: the four bytes of a header
  pub f : CaseF
  -- G: a table of one subtitle, as a block and in packets
  pub g_block : (bits G ≡ 116) × (fill G ≡ 4) × (size G ≡ 30)
  pub g_packets : CaseG (record_of 1 G)
  -- H: a table with no descriptors
  pub h : (bits H ≡ 58) × (fill H ≡ 6) × (size H ≡ 16)
  -- I: the most descriptors of 15 subtitles that can be written, and one more
  pub i :
      (bits (I 11) ≡ 8088)
      × (size (I 11) ≡ 2022)
      × (judged refused (write_rules 1 (form (I 11))) (Ok 0) ≡ Ok 0)
      × (judged refused (write_rules 1 (form (I 12))) (Ok 0) ≡ refused 15 0)
  -- J: the smallest PES packet
  pub j : CaseJ
  -- K: line offsets at either end of those taken
  pub k : CaseK

pub marked : Marked
marked =
    record {
      a_to_e = cases_a_to_e;
      images = the_images;
      f = case_f;
      g_block = case_G;
      g_packets = subst CaseG (sym record_g_lem) case_g;
      h = case_H;
      i = case_I;
      j = case_j;
      k = case_k;
    }
