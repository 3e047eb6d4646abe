-- How a statement ends, as the definition sees it.
use Rattle.script_meaning.specs.Evaluate as meant
use Rattle.script_meaning.specs.Variables.{Variables}
use Rattle.page_walker.specs.declared.frame.Flow.{Flow}
use Rattle.page_walker.specs.declared.frame.Flow.TheVariants.{On, Back}

-- with the variables that it left
abbrev pub flow_of : Variables → Flow → meant.Flow
flow_of vs On = meant.on vs
flow_of vs (Back d) = meant.back d
