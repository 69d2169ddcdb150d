use Rattle.std.proofs.Common.{refl, ap, ◌∙◌, arith}
use Rattle.std.proofs.lemmas.Slice.Eq.{slice_eq-Decides, bytes_eq-Decides}
use Rattle.std.proofs.lemmas.Bool.Decides.{same_from_decides, Decides-eqb}
use Rattle.std.specs.Str.{bytes_eq}
use Rattle.grammar.specs.Names.{operators, kind_named}
use Rattle.grammar.proofs.Naming.{named_here, named_later, named_none}
use Rattle.grammar.proofs.kind_of.Goals as goal

pub loop-kind-init : goal.loop-kind-init
unfolding kind_named
loop-kind-init c = refl

pub returns-then-eq : goal.returns-then-eq
returns-then-eq c =
    named_here operators c.args.name.now c.loop-kind.kind-index (omega arith) (same_from_decides _ _ (slice_eq-Decides Decides-eqb _ _ _ c.if-eq.ensures) (bytes_eq-Decides c.args.name.now c.word_of.result.now) ∙ ap (bytes_eq c.args.name.now) c.word_of.ensures)
    ∙ c.loop-kind.invariant

pub loop-kind-preserved : goal.loop-kind-preserved
loop-kind-preserved c =
    named_later operators c.args.name.now c.loop-kind.kind-index (omega arith) (same_from_decides _ _ (slice_eq-Decides Decides-eqb _ _ _ c.if-eq.ensures) (bytes_eq-Decides c.args.name.now c.word_of.result.now) ∙ ap (bytes_eq c.args.name.now) c.word_of.ensures)
    ∙ c.loop-kind.invariant

pub returns : goal.returns
returns c = named_none operators c.args.name.now c.loop-kind.kind-index (omega arith) ∙ c.loop-kind.invariant
