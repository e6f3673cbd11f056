-- `by_tag` meets its contract. At each tag of the table, its layout.
use borrow.Author.Rules.{rules}
use Rattle.term_head.specs.Code.{fields_of}
use Rattle.term_spec.specs.Head.{forms, form_in, fields, atom_cache_ref, atom_ext, big_ext, binary_ext, bit_binary_ext, export_ext, integer_ext, list_ext, map_ext, new_float_ext, new_reference_ext, nil_ext, pid_ext, port_ext, reference_ext, small_integer_ext, string_ext, tuple_ext}
use Rattle.term_spec.specs.AtomList.{given_of}
use Rattle.term_spec.specs.Text.{latin_1, utf_8, coding_of}
use Rattle.term_spec.specs.Numbers.{signed32}
use lib.IntN.{pos}
use mathlib.Core.Path.{refl, ap, ◌∙◌}
use Rattle.std.specs.Prelude.{Ok}
use Rattle.term_head.proofs.Tags.{at_tag, no_tag, Past, nil_head, pid_head, port_head, old_head, export_head}
use mathlib.Core.Path.{refl, ap, ◌∙◌}
use Rattle.std.specs.Prelude.{Ok}
use Rattle.term_head.proofs.by_tag.Goals as goal

pub returns-in-97 : goal.returns-in-97
unfolding form_in forms fields_of fields
returns-in-97 c = λ rows. c.integer.ensures pos rows ∙ at_tag _ _ _ _ _ 97 c.in-97.is small_integer_ext refl

pub returns-in-98 : goal.returns-in-98
unfolding form_in forms fields_of fields
returns-in-98 c = λ rows. c.integer-in-98.ensures signed32 rows ∙ at_tag _ _ _ _ _ 98 c.in-98.is integer_ext refl

pub returns-in-110 : goal.returns-in-110
unfolding form_in forms
returns-in-110 c = λ rows. c.big.ensures _ rows ∙ at_tag _ _ _ _ _ 110 c.in-110.is (big_ext 1) refl

pub returns-in-111 : goal.returns-in-111
unfolding form_in forms
returns-in-111 c = λ rows. c.big-in-111.ensures _ rows ∙ at_tag _ _ _ _ _ 111 c.in-111.is (big_ext 4) refl

pub returns-in-70 : goal.returns-in-70
unfolding form_in forms
returns-in-70 c = λ rows. c.float.ensures _ rows ∙ at_tag _ _ _ _ _ 70 c.in-70.is new_float_ext refl

pub returns-in-100 : goal.returns-in-100
unfolding form_in forms coding_of
returns-in-100 c = λ rows. c.atom.ensures _ rows ∙ at_tag _ _ _ _ _ 100 c.in-100.is (atom_ext latin_1 2) refl

pub returns-in-115 : goal.returns-in-115
unfolding form_in forms coding_of
returns-in-115 c = λ rows. c.atom-in-115.ensures _ rows ∙ at_tag _ _ _ _ _ 115 c.in-115.is (atom_ext latin_1 1) refl

pub returns-in-118 : goal.returns-in-118
unfolding form_in forms coding_of
returns-in-118 c = λ rows. c.atom-in-118.ensures _ rows ∙ at_tag _ _ _ _ _ 118 c.in-118.is (atom_ext utf_8 2) refl

pub returns-in-119 : goal.returns-in-119
unfolding form_in forms coding_of
returns-in-119 c = λ rows. c.atom-in-119.ensures _ rows ∙ at_tag _ _ _ _ _ 119 c.in-119.is (atom_ext utf_8 1) refl

pub returns-in-82 : goal.returns-in-82
unfolding form_in forms
returns-in-82 c = λ rows. c.cached_atom.ensures rows ∙ at_tag _ _ _ _ _ 82 c.in-82.is atom_cache_ref refl

pub returns-in-104 : goal.returns-in-104
unfolding form_in forms
returns-in-104 c = λ rows. c.tuple.ensures _ rows ∙ at_tag _ _ _ _ _ 104 c.in-104.is (tuple_ext 1) refl

pub returns-in-105 : goal.returns-in-105
unfolding form_in forms
returns-in-105 c = λ rows. c.tuple-in-105.ensures _ rows ∙ at_tag _ _ _ _ _ 105 c.in-105.is (tuple_ext 4) refl

pub returns-in-106 : goal.returns-in-106
unfolding form_in forms
returns-in-106 c = λ rows. nil_head _ _ _ _ ∙ at_tag _ _ _ _ _ 106 c.in-106.is nil_ext refl

pub returns-in-107 : goal.returns-in-107
unfolding form_in forms
returns-in-107 c = λ rows. c.string.ensures _ rows ∙ at_tag _ _ _ _ _ 107 c.in-107.is string_ext refl

pub returns-in-108 : goal.returns-in-108
unfolding form_in forms
returns-in-108 c = λ rows. c.list.ensures _ rows ∙ at_tag _ _ _ _ _ 108 c.in-108.is list_ext refl

pub returns-in-109 : goal.returns-in-109
unfolding form_in forms
returns-in-109 c = λ rows. c.binary.ensures _ rows ∙ at_tag _ _ _ _ _ 109 c.in-109.is binary_ext refl

pub returns-in-77 : goal.returns-in-77
unfolding form_in forms
returns-in-77 c = λ rows. c.bitstring.ensures _ rows ∙ at_tag _ _ _ _ _ 77 c.in-77.is bit_binary_ext refl

pub returns-in-116 : goal.returns-in-116
unfolding form_in forms
returns-in-116 c = λ rows. c.map.ensures _ rows ∙ at_tag _ _ _ _ _ 116 c.in-116.is map_ext refl

pub returns-in-88 : goal.returns-in-88
unfolding form_in forms
returns-in-88 c = λ rows. ap Ok c.no_fields.ensures ∙ pid_head _ _ _ _ 4 ∙ at_tag _ _ _ _ _ 88 c.in-88.is (pid_ext 4) refl

pub returns-in-103 : goal.returns-in-103
unfolding form_in forms
returns-in-103 c = λ rows. ap Ok c.no_fields-in-103.ensures ∙ pid_head _ _ _ _ 1 ∙ at_tag _ _ _ _ _ 103 c.in-103.is (pid_ext 1) refl

pub returns-in-89 : goal.returns-in-89
unfolding form_in forms
returns-in-89 c = λ rows. ap Ok c.no_fields-in-89.ensures ∙ port_head _ _ _ _ 4 4 ∙ at_tag _ _ _ _ _ 89 c.in-89.is (port_ext 4 4) refl

pub returns-in-102 : goal.returns-in-102
unfolding form_in forms
returns-in-102 c = λ rows. ap Ok c.no_fields-in-102.ensures ∙ port_head _ _ _ _ 4 1 ∙ at_tag _ _ _ _ _ 102 c.in-102.is (port_ext 4 1) refl

pub returns-in-120 : goal.returns-in-120
unfolding form_in forms
returns-in-120 c = λ rows. ap Ok c.no_fields-in-120.ensures ∙ port_head _ _ _ _ 8 4 ∙ at_tag _ _ _ _ _ 120 c.in-120.is (port_ext 8 4) refl

pub returns-in-90 : goal.returns-in-90
unfolding form_in forms given_of
returns-in-90 c = λ rows. c.reference.ensures _ refl rows ∙ at_tag _ _ _ _ _ 90 c.in-90.is (new_reference_ext 4) refl

pub returns-in-114 : goal.returns-in-114
unfolding form_in forms given_of
returns-in-114 c = λ rows. c.reference-in-114.ensures _ refl rows ∙ at_tag _ _ _ _ _ 114 c.in-114.is (new_reference_ext 1) refl

pub returns-in-101 : goal.returns-in-101
unfolding form_in forms
returns-in-101 c = λ rows. ap Ok c.no_fields-in-101.ensures ∙ old_head _ _ _ _ ∙ at_tag _ _ _ _ _ 101 c.in-101.is reference_ext refl

pub returns-in-113 : goal.returns-in-113
unfolding form_in forms
returns-in-113 c = λ rows. ap Ok c.no_fields-in-113.ensures ∙ export_head _ _ _ _ ∙ at_tag _ _ _ _ _ 113 c.in-113.is export_ext refl

pub returns-in_default : goal.returns-in_default
unfolding forms Past
returns-in_default c = λ rows. no_tag _ _ _ _ c.args.tag (search rules)
