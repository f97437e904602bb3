-- The causes of refusals, with their numbers and names (this project's own).
use Rattle.std.specs.Prelude.{ℕ, List, codes}
use Rattle.td_tree.specs.declared.cause.Cause.{Cause}
use Rattle.td_tree.specs.declared.cause.Cause.TheVariants.{Scan, Syntax, NameUnknown, NameTaken, TypeMismatch, Heading, KeyDeclaration, Rank, InUse, NotAssignable, Transaction, Overflow, ZeroDivisor, EmptyAggregate, NotOneTuple, TypeConstraint, NotDisjoint, NotIncluded, Key, Constraint}

-- of several causes the one with the least number is named
abbrev pub number_of : Cause → ℕ
number_of Scan = 1
number_of Syntax = 2
number_of NameUnknown = 3
number_of NameTaken = 4
number_of TypeMismatch = 5
number_of Heading = 6
number_of KeyDeclaration = 7
number_of Rank = 8
number_of InUse = 9
number_of NotAssignable = 10
number_of Transaction = 11
number_of Overflow = 20
number_of ZeroDivisor = 21
number_of EmptyAggregate = 22
number_of NotOneTuple = 23
number_of TypeConstraint = 24
number_of NotDisjoint = 25
number_of NotIncluded = 26
number_of Key = 30
number_of Constraint = 31

abbrev pub name_of : Cause → List ℕ
name_of Scan = codes "SCAN"
name_of Syntax = codes "SYNTAX"
name_of NameUnknown = codes "NAME_UNKNOWN"
name_of NameTaken = codes "NAME_TAKEN"
name_of TypeMismatch = codes "TYPE_MISMATCH"
name_of Heading = codes "HEADING"
name_of KeyDeclaration = codes "KEY_DECLARATION"
name_of Rank = codes "RANK"
name_of InUse = codes "IN_USE"
name_of NotAssignable = codes "NOT_ASSIGNABLE"
name_of Transaction = codes "TRANSACTION"
name_of Overflow = codes "OVERFLOW"
name_of ZeroDivisor = codes "ZERO_DIVISOR"
name_of EmptyAggregate = codes "EMPTY_AGGREGATE"
name_of NotOneTuple = codes "NOT_ONE_TUPLE"
name_of TypeConstraint = codes "TYPE_CONSTRAINT"
name_of NotDisjoint = codes "NOT_DISJOINT"
name_of NotIncluded = codes "NOT_INCLUDED"
name_of Key = codes "KEY"
name_of Constraint = codes "CONSTRAINT"
