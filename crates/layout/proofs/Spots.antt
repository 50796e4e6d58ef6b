-- Two spots with the same disk and row are one.
use Rattle.std.proofs.Common.{◌≡◌}
use Rattle.layout.specs.declared.Spot.{Spot}

pub same_spot : {p q : Spot} → p.disk ≡ q.disk → p.row.0 ≡ q.row.0 → p ≡ q
same_spot d r = λ i. record { disk = d i; row = record { 0 = r i } }
