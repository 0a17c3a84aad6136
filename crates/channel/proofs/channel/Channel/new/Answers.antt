use Rattle.channel.proofs.Going.{led_none}
use Rattle.channel.proofs.channel.Channel.new.Goals as goal

pub returns-clause-law : goal.returns-clause-law
returns-clause-law g c = led_none _ _ _ c.new.ensures
