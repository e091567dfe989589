-- The format of tables 11 and 12 is lawful: what is laid is read back, and what is read fits and is laid again as it was. The law is put
-- together as the format is. Assumes nothing.
use mathlib.Core.Path.{refl}
use Prim.Native.Nat.{ℕ, ◌%◌}
use lib.Dec.{eqb}
use Rattle.codecs.proofs.Lawful.{Lawful, number-lawful, filling-lawful, values-lawful, codes-lawful, then-lawful, row_lawful, seen-lawful}
use Rattle.information_forms.specs.Information.{network_format, fill_up, behind, network_widths, network_name}

pub network-lawful : Lawful network_format
unfolding network_format
network-lawful =
    seen-lawful (λ n. (n.numbers, n.name)) (λ r. record { numbers = r.0; name = r.1 })
    (then-lawful (values-lawful network_widths) (λ numbers. codes-lawful (network_name numbers))) (λ n. refl) (λ r e. refl)

fill-lawful : (count : ℕ) → Lawful (fill_up count)
unfolding fill_up
fill-lawful count = filling-lawful (eqb (count % 2) 1) 4

pub behind-lawful : Lawful behind
behind-lawful =
    then-lawful (values-lawful _) (λ opening. then-lawful (number-lawful _) (λ first. then-lawful (codes-lawful _) (λ name.
    then-lawful (row_lawful network-lawful _) (λ networks. fill-lawful _))))
