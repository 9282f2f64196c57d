-- The piece at the front of a text, from the blank, the comment or the token there.
use Rattle.std.proofs.Common.{◌≡◌, ◌≢◌, ◌≤◌, ℕ, List, [], ◌∷◌, ◌++◌, length, take, drop, inl, inr, Option, Some, None, refl, sym, ap, subst, ◌∙◌, arith}
use Rattle.std.proofs.lemmas.List.{take-append-drop, length-take-le}
use Rattle.capl_lexer.specs.Spelling.{IsBlank}
use Rattle.capl_lexer.specs.Reading.{Piece, Blank, Comment, Lexeme, IsFront, IsLongest, OpensComment}
use Rattle.capl_lexer.specs.Inside.ByteClass.{IsFirstInClass}
use Rattle.capl_lexer.specs.Inside.Front.{IsTokenFront, HasNoToken}
use Rattle.capl_lexer.specs.Inside.Step.{IsStep, HasNoPiece, HasNoPassed, IsLineCommentFront, IsBlockCommentFront, HasNoBlockComment}
use Rattle.capl_lexer.specs.declared.byte_class.ByteClass.TheVariants as class
use Rattle.capl_lexer.specs.declared.front.Front.{Front}
use Rattle.capl_lexer.specs.declared.step.Step.{Step}
use Rattle.capl_lexer.specs.declared.token.Tok.{Tok}
use Rattle.capl_lexer.proofs.CommentLemmas.{comment-opens}

-- a blank
pub step_blank : (text : List ℕ) (step : Step) → IsFirstInClass class.Blank text → step.tok ≡ None → step.length ≡ 1 → IsStep text step
step_blank [] step blank none one = absurd blank
step_blank (byte ∷ text) step blank none one = record {
  piece = Blank byte;
  within = omega arith;
  front = (blank, ap (λ n. byte ∷ drop n (byte ∷ text)) (sym one));
  tok = none;
}

-- a comment up to the end of its line
pub step_line : (text : List ℕ) (step : Step) → IsLineCommentFront text step.length → step.tok ≡ None → IsStep text step
step_line text step front none = record {
  piece = Comment (take step.length text);
  within = front.within;
  front = (inl front.is, sym (take-append-drop step.length text));
  tok = none;
}

-- a closed comment
pub step_block : (text : List ℕ) (step : Step) → IsBlockCommentFront text step.length → step.tok ≡ None → IsStep text step
step_block text step front none = record {
  piece = Comment (take step.length text);
  within = front.within;
  front = (inr front.is, sym (take-append-drop step.length text));
  tok = none;
}

-- a comment that is not closed
pub none_block : (text inside : List ℕ) → text ≡ 47 ∷ 42 ∷ inside → HasNoBlockComment text → HasNoPiece text
none_block text inside is none (Blank byte) rest (blank, split) =
    let same : byte ∷ rest ≡ 47 ∷ 42 ∷ inside = sym split ∙ is in
    let slash : byte ≡ 47 = cc in grind arith
none_block text inside is none (Comment bytes) rest (inl (within, spelled, all, ends), split) =
    let same : 47 ∷ 47 ∷ within ++ rest ≡ 47 ∷ 42 ∷ inside = sym (split ∙ ap (λ b. b ++ rest) spelled) ∙ is in
    let wrong : ◌≡◌ {A = ℕ} 47 42 = cc in absurd (omega (arith, wrong))
none_block text inside is none (Comment bytes) rest (inr block, split) = none bytes rest split block
none_block text inside is none (Lexeme bytes tok) rest (spells, split, longest, no_comment) = no_comment (47 ∷ 42 ∷ [], inside, inr refl, is)

-- a token, where neither a blank nor a comment is
pub step_token : (text : List ℕ) (front : Front) → HasNoPassed text → IsTokenFront text front
    → IsStep text (record { tok = Some front.tok; length = front.length })
step_token text front none is = record {
  piece = Lexeme (take front.length text) front.tok;
  within = is.within;
  front = (
    is.spells,
    sym (take-append-drop front.length text),
    subst (IsLongest text) (sym (length-take-le front.length text is.within)) is.longest,
    none.no_comment,
  );
  tok = refl;
}

-- nothing
pub none_token : (text : List ℕ) → HasNoPassed text → HasNoToken text → HasNoPiece text
none_token text passed none (Blank byte) rest (blank, split) =
    passed.no_blank (subst (IsFirstInClass class.Blank) (sym split) blank)
none_token text passed none (Comment bytes) rest (comment, split) = passed.no_comment (comment-opens text bytes rest split comment)
none_token text passed none (Lexeme bytes tok) rest (spells, split, longest, no_comment) = none bytes rest tok split spells
