use Rattle.std.proofs.Common.{arith}
use Rattle.nodes.specs.Shown.{entry_shown}
use Rattle.encode.specs.Encode.{EntryFits}
use Rattle.encode.proofs.Entries.{entry_made, entry_trip}
use Rattle.encode.proofs.node.EntryNode532.words.Goals as goal

pub returns-clause-made : goal.returns-clause-made
returns-clause-made c = λ h.
    let x = entry_shown c.args.self.now in
    let fits : EntryFits x = record { pino = omega arith; version = omega arith; ino = omega arith; dtype = omega arith; short = h } in
    (entry_made x fits, entry_trip x fits)
