-- The type of a declaration breaks the same wherever in a file it stands.
use Rattle.std.proofs.Common.{◌≡◌, refl}
use Rattle.capl_tree.specs.declared.declaration.DeclType.{DeclType}
use Rattle.capl_tree.specs.declared.declaration.DeclType.TheVariants as decl_type
use Rattle.capl_meaning.specs.DeclarationRules.{type_rules}
use Rattle.capl_meaning.specs.Names.{Scope, outside}

-- outside of procedures and anywhere else
pub type_at : (s : Scope) (what : DeclType) → type_rules (outside s.names s.file) what ≡ type_rules s what
type_at s (decl_type.Number kind fixed) = refl
type_at s decl_type.Any = refl
type_at s (decl_type.ById value extended at) = refl
type_at s (decl_type.ByName name at) = refl
type_at s decl_type.Seconds = refl
type_at s decl_type.Millis = refl
