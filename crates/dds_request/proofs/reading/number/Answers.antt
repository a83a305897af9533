use Rattle.std.proofs.Common.{refl}
use Rattle.clap.specs.Words.{found_of, one_text}
use Rattle.dds_request.proofs.Numbers.{counted, uncounted}
use Rattle.dds_request.proofs.reading.number.Goals as goal

pub returns-clause-some : goal.returns-clause-some
returns-clause-some c =
    counted (found_of c.args.matches.now) c.args.id.now (one_text (found_of c.args.matches.now) c.args.id.now) c.get_one.result refl c.get_one.ensures.none c.get_one.ensures.value

pub returns-clause-none : goal.returns-clause-none
returns-clause-none c = uncounted (found_of c.args.matches.now) c.args.id.now c.get_one.result c.get_one.ensures.value
