use Rattle.std.proofs.Common.{arith, ◌∙◌}
use Rattle.nodes.proofs.Decided.{front_none, front_some}
use Rattle.nodes.proofs.tail.Tail.front.Goals as goal

pub returns-in_err-front : goal.returns-in_err-front
returns-in_err-front c = front_none c.args.self c.args.n _ c.from_residual.ensures (omega (arith, c.in_err-front.ensures.lookup.0))

pub returns : goal.returns
returns c =
    let part = c.in_ok-front.ensures.lookup.0 in
    front_some c.args.self c.args.n _ _ _ c.then_some.ensures c.readable_to.ensures part.1 (part.2 ∙ grind arith)
