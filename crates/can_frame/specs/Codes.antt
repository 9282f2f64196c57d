-- How an identifier and a frame are stored as data.
use Rattle.std.specs.Prelude.{◌≡◌, ℕ, Bool, true, false, List, refl}
use Rattle.std.specs.Coded.{Coded, code_by, coded×, coded_ℕ, coded_bool, coded_list}
use Rattle.can_frame.specs.declared.Ident.{Ident}
use Rattle.can_frame.specs.declared.Ident.TheVariants.{Std, Ext}
use Rattle.can_frame.specs.Frame.{FrameFields}

-- an identifier as whether it is extended, and its number
abbrev ident_pair : Ident → Bool × ℕ
ident_pair (Std n) = (false, n)
ident_pair (Ext n) = (true, n)

-- the identifier of such a pair
abbrev ident_of : Bool → ℕ → Ident
ident_of false n = Std n
ident_of true n = Ext n

-- the pair of an identifier gives it back
pub same_ident : (i : Ident) → ident_of (ident_pair i).0 (ident_pair i).1 ≡ i
same_ident (Std n) = refl
same_ident (Ext n) = refl

-- an identifier is stored as that pair
abbrev pub ident_code : Coded Ident
ident_code = code_by (Bool × ℕ) (coded× coded_bool coded_ℕ) ident_pair (λ p. ident_of p.0 p.1) same_ident

-- a frame is stored as its fields
abbrev pub frame_code : Coded FrameFields
frame_code =
    code_by (Ident × (Bool × (ℕ × (List ℕ × ℕ))))
    (coded× ident_code (coded× coded_bool (coded× coded_ℕ (coded× (coded_list coded_ℕ) coded_ℕ))))
    (λ f. (f.ident, (f.remote, (f.dlc, (f.payload, f.can)))))
    (λ p. record { ident = p.0; remote = p.1.0; dlc = p.1.1.0; payload = p.1.1.1.0; can = p.1.1.1.1 })
    (λ _. refl)
