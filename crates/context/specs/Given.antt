-- What the definitions are given, of what the code hands down.
-- About the code alone, proved against the definitions of term_spec: nothing here has to be believed.
use Rattle.term_spec.specs.Head.{Given}
use Rattle.term_spec.specs.AtomList.{AtomList, lent_list, given_of}
use Rattle.context.specs.declared.Context.{Context}

-- the lent list, n of whose places count
abbrev pub list_in : Context → AtomList
list_in c = lent_list c.n c.places.now c.lengths.now

-- the flags and that list
abbrev pub given_in : Context → Given
given_in c = given_of c.flags (list_in c)
