-- How an expansion goes on without a file for the second time.
use Rattle.std.specs.Prelude.{◌≡◌, ℕ, ◌+◌, true, false, List, ◌++◌, All, length}
use Rattle.texts.specs.Fault.{raised_by}
use Rattle.capl_include.specs.Answer.{HaveDifferentNames}
use Rattle.capl_include.specs.Expansion.{Expansion}
use Rattle.capl_include.specs.Inside.Step.{has_met}
use Rattle.capl_include.specs.declared.expanded.SourceFile.{SourceFile}

-- an expansion went on: what was met still is, and the files that were appended were not met before, are met
-- now, and have different names
pub record GoesOnce (old new : Expansion) : Type 0 where
  pub keeps : (name : List ℕ) → has_met old.met name ≡ true → has_met new.met name ≡ true
  pub more : List SourceFile
  pub files : new.files ≡ old.files ++ more
  pub were_new : All (λ file. has_met old.met file.name ≡ false) more
  pub are_met : All (λ file. has_met new.met file.name ≡ true) more
  pub differ : HaveDifferentNames more

-- an expansion went on, and a count of reads rose by as many as files were appended, and so many more
pub record ReadsEach (more before after : ℕ) (old new : Expansion) : Type 0 where
  pub appended : ℕ
  pub files : length new.files ≡ length old.files + appended
  pub reads : after ≡ raised_by (more + appended) before
