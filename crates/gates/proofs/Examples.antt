-- Lists that the definitions judge and read by computing. Assumes nothing.
use Rattle.std.proofs.Common.{◌≡◌, [], ◌∷◌, refl}
use Rattle.frame.specs.Refusals.{accepted, refused}
use Rattle.gates.specs.GateLists.{list_fills}
use Rattle.gates.specs.Loads.{load_as}

fills_one : list_fills (0x01 ∷ 0x02 ∷ []) 0 ≡ 1
fills_one = refl

both_open : load_as (0x01 ∷ 0x03 ∷ []) ≡ refused 10 1
both_open = refl

-- the number of entries comes first
none_given : load_as [] ≡ refused 10 0
none_given = refl

odd_number : load_as (0xFF ∷ 0x02 ∷ 0x01 ∷ []) ≡ refused 10 3
odd_number = refl

no_turn : load_as (0x0D ∷ 0x0E ∷ 0x06 ∷ 0x05 ∷ []) ≡ refused 10 2
no_turn = refl

high_bit : load_as (0x11 ∷ 0x02 ∷ []) ≡ refused 10 0
high_bit = refl

loaded : load_as (0x0D ∷ 0x0E ∷ []) ≡ accepted (0x0D ∷ 0x0E ∷ [])
loaded = refl
