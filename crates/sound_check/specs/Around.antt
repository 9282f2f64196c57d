-- What a statement stands in, as the definition of sound programs has it.
use Rattle.sound_check.specs.declared.around.Around.{Around}
use Rattle.typed_tree.specs.SoundStatement as sound

-- the same with the words of that definition
abbrev pub around_of : Around → sound.Around
around_of around = record {
  number = around.number;
  gives = around.gives;
  breakable = around.breakable;
  continuable = around.continuable;
}
