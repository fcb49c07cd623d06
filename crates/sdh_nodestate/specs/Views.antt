-- The code's scenes and choices as those of the rules.
use Rattle.sdh_nodestate.specs.declared.scene.Scene as code
use Rattle.sdh_nodestate.specs.declared.scene.Choice as code_choice
use Rattle.sdh_nodestate.specs.declared.scene.Choice.TheVariants as variant
use Rattle.sdh_nodestate.specs.Rules.{Scene, scene, Choice, own_short, own_long, relay, rest}

-- the code's scene as a scene of the rules
abbrev pub view : code.Scene → Scene
view s = scene s.map.now s.at.0 s.needs s.heard

-- the code's choice as a choice of the rules
abbrev pub choice_of : code_choice.Choice → Choice
choice_of variant.OwnShort = own_short
choice_of variant.OwnLong = own_long
choice_of variant.Relay = relay
choice_of variant.Rest = rest
