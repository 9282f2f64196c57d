-- Verified code whose formats are kept can be stored, and no other has a text.
use Rattle.std.proofs.Common.{rules}
use Rattle.object_file.proofs.VerifiedLemmas.{verified_storable}
use Rattle.object_file.proofs.file.store.Goals as goal

pub text_of-requires : goal.text_of-requires
text_of-requires c = verified_storable c.code-code.result.now c.code-code.ensures.verified c.code-code.ensures.short (search rules)
