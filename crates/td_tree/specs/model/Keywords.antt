-- The reserved words of the language (this project's own list).
use Rattle.std.specs.Prelude.{ℕ, List, [], ◌∷◌, Option, codes, find}
use Rattle.std.specs.Str.{str_eq_ignore_ascii_case}
use Rattle.td_tree.specs.declared.keyword.Keyword.{Keyword}
use Rattle.td_tree.specs.declared.keyword.Keyword.TheVariants.{Add, All, And, As, Base, Begin, Boolean, But, By, Char, Commit, Compose, Constraint, Count, Delete, Drop, Dump, DInsert, DUnion, Else, End, Extend, False, From, Group, If, In, Init, Insert, Integer, Intersect, IsEmpty, IDelete, IMinus, Join, Key, Matching, Max, Min, Minus, Not, Or, Per, Possrep, Real, Relation, Rename, Rollback, Sum, Summarize, TableDee, TableDum, Tclose, Then, Times, Transaction, True, Tuple, «Type», Ungroup, Union, Unwrap, Update, Var, Virtual, Where, With, Wrap, Write}

-- a reserved word in capitals
abbrev pub word_of : Keyword → List ℕ
word_of Add = codes "ADD"
word_of All = codes "ALL"
word_of And = codes "AND"
word_of As = codes "AS"
word_of Base = codes "BASE"
word_of Begin = codes "BEGIN"
word_of Boolean = codes "BOOLEAN"
word_of But = codes "BUT"
word_of By = codes "BY"
word_of Char = codes "CHAR"
word_of Commit = codes "COMMIT"
word_of Compose = codes "COMPOSE"
word_of Constraint = codes "CONSTRAINT"
word_of Count = codes "COUNT"
word_of Delete = codes "DELETE"
word_of Drop = codes "DROP"
word_of Dump = codes "DUMP"
word_of DInsert = codes "D_INSERT"
word_of DUnion = codes "D_UNION"
word_of Else = codes "ELSE"
word_of End = codes "END"
word_of Extend = codes "EXTEND"
word_of False = codes "FALSE"
word_of From = codes "FROM"
word_of Group = codes "GROUP"
word_of If = codes "IF"
word_of In = codes "IN"
word_of Init = codes "INIT"
word_of Insert = codes "INSERT"
word_of Integer = codes "INTEGER"
word_of Intersect = codes "INTERSECT"
word_of IsEmpty = codes "IS_EMPTY"
word_of IDelete = codes "I_DELETE"
word_of IMinus = codes "I_MINUS"
word_of Join = codes "JOIN"
word_of Key = codes "KEY"
word_of Matching = codes "MATCHING"
word_of Max = codes "MAX"
word_of Min = codes "MIN"
word_of Minus = codes "MINUS"
word_of Not = codes "NOT"
word_of Or = codes "OR"
word_of Per = codes "PER"
word_of Possrep = codes "POSSREP"
word_of Real = codes "REAL"
word_of Relation = codes "RELATION"
word_of Rename = codes "RENAME"
word_of Rollback = codes "ROLLBACK"
word_of Sum = codes "SUM"
word_of Summarize = codes "SUMMARIZE"
word_of TableDee = codes "TABLE_DEE"
word_of TableDum = codes "TABLE_DUM"
word_of Tclose = codes "TCLOSE"
word_of Then = codes "THEN"
word_of Times = codes "TIMES"
word_of Transaction = codes "TRANSACTION"
word_of True = codes "TRUE"
word_of Tuple = codes "TUPLE"
word_of «Type» = codes "TYPE"
word_of Ungroup = codes "UNGROUP"
word_of Union = codes "UNION"
word_of Unwrap = codes "UNWRAP"
word_of Update = codes "UPDATE"
word_of Var = codes "VAR"
word_of Virtual = codes "VIRTUAL"
word_of Where = codes "WHERE"
word_of With = codes "WITH"
word_of Wrap = codes "WRAP"
word_of Write = codes "WRITE"

-- all of them
abbrev pub keywords : List Keyword
keywords = Add ∷ All ∷ And ∷ As ∷ Base ∷ Begin ∷ Boolean ∷ But ∷ By ∷ Char ∷ Commit ∷ Compose
    ∷ Constraint ∷ Count ∷ Delete ∷ Drop ∷ Dump ∷ DInsert ∷ DUnion ∷ Else ∷ End ∷ Extend ∷ False
    ∷ From ∷ Group ∷ If ∷ In ∷ Init ∷ Insert ∷ Integer ∷ Intersect ∷ IsEmpty ∷ IDelete ∷ IMinus
    ∷ Join ∷ Key ∷ Matching ∷ Max ∷ Min ∷ Minus ∷ Not ∷ Or ∷ Per ∷ Possrep ∷ Real ∷ Relation
    ∷ Rename ∷ Rollback ∷ Sum ∷ Summarize ∷ TableDee ∷ TableDum ∷ Tclose ∷ Then ∷ Times
    ∷ Transaction ∷ True ∷ Tuple ∷ «Type» ∷ Ungroup ∷ Union ∷ Unwrap ∷ Update ∷ Var ∷ Virtual
    ∷ Where ∷ With ∷ Wrap ∷ Write ∷ []

-- the reserved word that a text spells, in any ASCII case
unfoldable pub keyword_of : List ℕ → Option Keyword
keyword_of text = find (λ k. str_eq_ignore_ascii_case (word_of k) text) keywords
