use Rattle.std.proofs.Common.{◌≡◌, ℕ, ◌+◌, ◌-◌, ◌*◌, ◌≤◌, length, take, drop, sym, refl, ◌∙◌, subst, arith, length-drop, length-take}
use Rattle.survey.specs.Surveyed.{WordRead}
use Rattle.survey.proofs.Words.{put_over}
use Rattle.survey.proofs.note_word.Goals as goal

pub returns : goal.returns
returns g c =
    let a = c.args.i * 4 in
    let old = c.args.bytes.now in
    let new = c.read_word.new.word in
    let four : a + 4 - a ≡ 4 = omega arith in
    let room : a + 4 ≤ length old = c.requires.0 in
    let long : length new ≡ 4 = c.read_word.auto.word ∙ simp (length-take, length-drop) (omega arith) in
    record {
      word = new;
      flag = c.read_word.result;
      long = long;
      bytes = put_over old new a (a + 4 - a) (long ∙ sym four);
      flags = refl;
      read = subst (λ (k : ℕ). WordRead (g.F.Flash.meaning c.args.flash.now) c.args.block a (take k (drop a old)) c.read_word.result new) four c.read_word.ensures;
    }
