use Rattle.td_types.proofs.NameTests.{name_tests_tell}
use Rattle.td_types.proofs.laws.name_tests_tell.Goals as goal

pub returns : goal.returns
returns c = name_tests_tell
