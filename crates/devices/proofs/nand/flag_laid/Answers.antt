use Rattle.std.proofs.Common.{◌≡◌, ◌<◌, length, rules, arith}
use Rattle.std.proofs.lemmas.Result.{IfErr-at_err}
use Rattle.devices.proofs.Flags.{filled_more}
use Rattle.devices.proofs.nand.flag_laid.Goals as goal

pub returns-in-Err : goal.returns-in-Err
returns-in-Err c =
    let one = IfErr-at_err (λ cut. cut.after < c.args.n) c.in-Err.is c.requires.one in
    let full : length c.args.lost.now ≡ 128 = search rules in
    rw c.in-Err.is (filled_more c.args.lost.now c.fill-in-Err.new.self c.args.first c.in-Err.cut.after _ (omega (arith, c.requires.pages)) (c.fill-in-Err.ensures.after (λ y e. e)))
