use Rattle.std.proofs.Common.{length}
use Rattle.test_forms.proofs.proxies.+lowest.Given as goal

-- proposed from what the function passes where it calls itself
abbrev pub decreases-lowest : goal.decreases-lowest
decreases-lowest l = length l.proxies.now
