mod NamesLaws
