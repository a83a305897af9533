use Rattle.std.proofs.Common.{refl}
use Rattle.dds_answers.specs.declared.fault.ToolFault.TheVariants.{NoMemory}
use Rattle.dds_answers.proofs.giving.tell_fault.Goals as goal

-- the line that is told is that of want of memory
pub returns-in-Err-clause-told : goal.returns-in-Err-clause-told
returns-in-Err-clause-told g c = λ whole. (NoMemory, refl, c.say-in-Err.ensures.said whole)
