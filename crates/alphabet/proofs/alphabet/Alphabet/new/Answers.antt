use Rattle.std.proofs.Common.{◌≡◌, length, true, refl, ap, ◌∙◌, arith, rules}
use Rattle.fixed.specs.Items.{listed}
use Rattle.alphabet.specs.CaseAlphabet.{case_names, case_bounds}
use Rattle.alphabet.specs.Carrying.{bounds_right}
use Rattle.alphabet.specs.Every.{every}
use Rattle.alphabet.specs.Names.{may_name, all_distinct, operator_words}
use Rattle.alphabet.specs.Spelling.{spellings, bounds_in}
use Rattle.alphabet.proofs.alphabet.Alphabet.new.Goals as goal

case_names_right : every may_name case_names ≡ true
unfolding operator_words
case_names_right = refl

pub invariant_of-result : goal.invariant_of-result
invariant_of-result c =
    let names : spellings (listed c.loop-name.symbols) ≡ case_names = search rules in
    let bounds : bounds_in (listed c.loop-name.symbols) ≡ case_bounds = search rules in
    let count : length (listed c.loop-name.symbols) ≡ c.loop-name.name-index = c.loop-name.invariant.count in
    record {
      counted = (omega arith, omega arith);
      bounded = ap (every bounds_right) bounds;
      named = ap (every may_name) names ∙ case_names_right;
      distinct = ap all_distinct names;
    }
