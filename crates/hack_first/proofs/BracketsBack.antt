-- Brackets in which nothing was read.
use Rattle.std.proofs.Common.{◌≡◌, ℕ, Bool, List, [], ◌∷◌, Ok, sym, ap, ◌∙◌}
use Rattle.hack_lexer.specs.declared.kind.Mark.TheVariants as mark
use Rattle.hack_parse_expr.specs.declared.lexeme.Lexeme.{Lexeme}
use Rattle.hack_parse_expr.specs.Input.{Input}
use Rattle.hack_parse_expr.specs.Symbols.{Mark_}
use Rattle.hack_parse_expr.specs.Parsers.{Parser, ◌>>=◌, ◌>>◌, pure, expect, list_of}
use Rattle.hack_first.specs.FirstUnits.{mark as mark_form}
use Rattle.hack_first.proofs.Gives.{steps, same_value, same_rest, expect_takes, list_none}
use Rattle.hack_first.proofs.RowsBack.{form, form_of_mark}

-- `( )`
pub record TookBrackets (names : List (List ℕ)) (i rest : Input) : Type 0 where
  pub opens : Lexeme
  pub closes : Lexeme
  pub parts : i.left ≡ opens ∷ closes ∷ rest.left
  pub start : rest.start ≡ i.start
  pub is_open : form names opens ≡ mark_form mark.OpenParen
  pub is_close : form names closes ≡ mark_form mark.CloseParen

-- a list of none between brackets was read from the brackets
pub no_items : {A : Type 0} (names : List (List ℕ)) (begins : List Lexeme → Bool) (p : Parser A) (i rest : Input) →
    (expect (Mark_ mark.OpenParen) >> (list_of begins p >>= (λ found. expect (Mark_ mark.CloseParen) >> pure found))) i ≡ Ok ([], rest) → TookBrackets names i rest
no_items names begins p i rest h =
    let s1 = steps (expect (Mark_ mark.OpenParen) i) _ [] rest h in
    let s2 = steps (list_of begins p s1.mid) _ [] rest s1.others in
    let s3 = steps (expect (Mark_ mark.CloseParen) s2.mid) _ [] rest s2.others in
    let none : s2.value ≡ [] = same_value s2.value [] s3.mid rest s3.others in
    let end : s3.mid ≡ rest = same_rest s2.value [] s3.mid rest s3.others in
    let here : s2.mid ≡ s1.mid = list_none begins p s1.mid s2.mid (s2.first ∙ (λ k. Ok (none k, s2.mid))) in
    let t1 = expect_takes (Mark_ mark.OpenParen) i s1.value s1.mid s1.first in
    let t3 = expect_takes (Mark_ mark.CloseParen) s2.mid s3.value s3.mid s3.first in
    record {
      opens = t1.l;
      closes = t3.l;
      parts = t1.took.parts ∙ ap (λ ls. t1.l ∷ ls) (ap (λ (j : Input). j.left) (sym here) ∙ t3.took.parts ∙ ap (λ (j : Input). t3.l ∷ j.left) end);
      start = ap (λ (j : Input). j.start) (sym end) ∙ t3.took.start ∙ ap (λ (j : Input). j.start) here ∙ t1.took.start;
      is_open = form_of_mark names mark.OpenParen t1.l t1.fits_so;
      is_close = form_of_mark names mark.CloseParen t3.l t3.fits_so;
    }
