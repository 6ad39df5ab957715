use Rattle.std.proofs.Common.{sym, ◌∙◌}
use Rattle.nodes.specs.Image.{seen_in}
use Rattle.losses.proofs.Leaving as leaving
use Rattle.losses.proofs.Keeping.{keeps}
use Rattle.losses.proofs.Fairness.{nothing_lost}
use Rattle.losses.proofs.Lockstep.{fair_decided, fair_left}
use Rattle.losses.proofs.Computed.{computed}
use Rattle.losses.proofs.Failures as failures
use Rattle.losses.proofs.fair.is_fair.Goals as goal

pub returns : goal.returns
returns c = record {
  answer = c.decide.ensures;
  left = λ e. fair_left (seen_in c.args.want) (seen_in c.args.got) (sym c.decide.ensures ∙ e);
  rows = leaving.left;
  kept = λ want got k l e. keeps want got l k e;
  nothing = nothing_lost;
  decided = fair_decided;
  program = failures.program_loss;
  synced = failures.synced_kept;
  opening = failures.opening_loss;
  spares = failures.program_spares;
  erase = failures.erase_loss;
  restart = failures.restart_loss;
  finishes = failures.program_finishes;
  held = failures.held_finished;
  follows = failures.synced_program;
  unheld = failures.unheld_finished;
  shows = failures.restart_shows;
  examples = computed;
}
