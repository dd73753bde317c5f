mod AgainLaws
