use Rattle.caseline.proofs.Texts.{texts_give_cases, texts_give_look_alikes}
use Rattle.caseline.proofs.texts_give_shapes.Goals as goal

pub returns : goal.returns
returns c = record { cases = texts_give_cases; look_alikes = texts_give_look_alikes }
