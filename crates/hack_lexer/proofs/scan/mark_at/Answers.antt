use Rattle.hack_lexer.proofs.Longest.{found_mark_3, found_mark_2, found_mark_1}
use Rattle.hack_lexer.proofs.scan.mark_at.Goals as goal

pub returns-in-Some : goal.returns-in-Some
returns-in-Some c = found_mark_3 c.args.rest.now c.in-Some.found c.requires.alone c.in-Some.ensures

pub returns-in-Some-mark_of : goal.returns-in-Some-mark_of
returns-in-Some-mark_of c = found_mark_2 c.args.rest.now c.in-Some-mark_of.found c.requires.alone c.in-None.ensures c.in-Some-mark_of.ensures

pub returns-in-None-mark_of : goal.returns-in-None-mark_of
returns-in-None-mark_of c = found_mark_1 c.args.rest.now c.mark_of-in-None-mark_of.result c.requires.alone c.in-None.ensures c.in-None-mark_of.ensures c.mark_of-in-None-mark_of.ensures
